use Rattle.std.proofs.lemmas.Result.{on_ok_weaker}
use Rattle.fact_table.proofs.scoped_table.Marks.{one_earlier}
use Rattle.plain_facts.proofs.notes.forget_index.Goals as goal

pub returns-clause-behind : goal.returns-clause-behind
returns-clause-behind c =
    on_ok_weaker c.forget.result (λ h. one_earlier _ c.args.table.now c.learn.new.self c.forget.new.table c.in_ok-learn.ensures.learned c.forget.ensures.behind) c.forget.ensures.forgotten
