use Rattle.std.proofs.Common.{refl, sym, subst}
use Rattle.core_ir.specs.declared.tree.Core.{Core}
use Rattle.core_ir.specs.Outcome.{SameOutcome, SameOutside}
use Rattle.core_ir.specs.View.{core_term}
use Rattle.unreached_functions.proofs.Outside.{outside_itself}
use Rattle.unreached_functions.proofs.empty.empty_unreached.Goals as goal
use Rattle.unreached_functions.proofs.empty.empty_unreached.Goals.{then-closed+in_ok-empty_unmarked, else-closed}

pub returns-clause-outcome : goal.returns-clause-outcome
returns-clause-outcome c =
    let start = core_term c.args.core in
    elim c.if-closed.branch [
      | then-closed+in_ok-empty_unmarked w ↦
          subst (λ (m : Core). SameOutcome start (core_term m)) (sym w.core-is) (w.in_ok-empty_unmarked.ensures.outcome (c.in_ok-closed.ensures w.if-closed.true))
      | else-closed w ↦
          subst (λ (m : Core). SameOutcome start (core_term m)) (sym w.core-is) (λ args caps. refl)
    ]

pub returns-clause-outside : goal.returns-clause-outside
returns-clause-outside c =
    let start = core_term c.args.core in
    elim c.if-closed.branch [
      | then-closed+in_ok-empty_unmarked w ↦
          subst (λ (m : Core). SameOutside start (core_term m)) (sym w.core-is) w.in_ok-empty_unmarked.ensures.outside
      | else-closed w ↦ subst (λ (m : Core). SameOutside start (core_term m)) (sym w.core-is) (outside_itself start)
    ]
