use Rattle.core_ir.specs.Terms.{PlainTerm, Plain}
use Rattle.vector_selections.proofs.Walked.{vector_bound}
use Rattle.vector_selections.proofs.choice.bind_vector.Goals as goal

pub returns-clause-bound : goal.returns-clause-bound
returns-clause-bound c =
    vector_bound c.args.done.now.items c.push.new.self.items _ c.in_ok-vector.vector c.args.fresh.now c.args.site c.args.number c.in_ok-push.ensures.items
    (λ i. record { targets = c.in_ok-targets.ensures i; site = c.args.site; right = Plain (PlainTerm.Literal (c.in_ok-numbers.ensures i)) }) c.in_ok-vector.ensures.taken
