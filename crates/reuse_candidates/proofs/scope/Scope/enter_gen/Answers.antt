use Rattle.fact_table.proofs.scoped_table.Marks.{one_earlier}
use Rattle.reuse_candidates.proofs.scope.Scope.enter_gen.Goals as goal

pub returns-clause-behind : goal.returns-clause-behind
returns-clause-behind c =
    λ i. record {
      facts = c.in_ok-forget_index.ensures.behind i;
      bases = one_earlier _ c.args.self.now.bases c.note.new.self c.learn_ints.new.table c.in_ok-note.ensures.noted c.in_ok-learn_ints.ensures.behind i;
    }
