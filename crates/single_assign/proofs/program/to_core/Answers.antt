use Rattle.std.proofs.Common.{◌<◌, ◌^◌, ◌≡◌, ◌∙◌, IfOk, ap, length, subst}
use Rattle.sac_ast.specs.View.{program}
use Rattle.core_ir.specs.View.{core_term}
use Rattle.core_lowering.specs.Programs.{lowered_program}
use Rattle.single_assign.proofs.Cores.{as_many, well_formed, same_outcome}
use Rattle.single_assign.proofs.program.to_core.Goals as goal

pub returns-clause-well_formed : goal.returns-clause-well_formed
returns-clause-well_formed c formed =
    let few = subst (λ fs. length fs < 2 ^ 32) (c.deref.ensures.value ∙ ap (λ p. p.functions.items) c.program-program.ensures) c.in_ok-few.ensures in
    well_formed (program c.args.checked.now.program) c.lower_program.result (as_many c.args.checked.now.program.functions.items few)
    (subst (λ p. IfOk c.lower_program.result (λ core. core_term core ≡ lowered_program (program p))) c.program-program.ensures c.lower_program.ensures)
    formed c.args.checked.now.accepted

pub returns-clause-outcome : goal.returns-clause-outcome
returns-clause-outcome c formed =
    same_outcome (program c.args.checked.now.program) c.lower_program.result
    (subst (λ p. IfOk c.lower_program.result (λ core. core_term core ≡ lowered_program (program p))) c.program-program.ensures c.lower_program.ensures)
    formed c.args.checked.now.accepted
