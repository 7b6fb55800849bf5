-- The core of an accepted program of the form that the grammar gives.
use Rattle.std.proofs.Common.{◌<◌, ◌^◌, length}
use Rattle.sac_ast.specs.Tree.{ProgramTree}
use Rattle.core_ir.specs.WellFormed.{IsWellFormed}
use Rattle.check_rules.specs.Accepted.{IsAccepted}
use Rattle.core_lowering.specs.Programs.{HasOutcomeOf, lowered_program}
use Rattle.core_lowering.proofs.Whole.{outcome_same}
use Rattle.core_lowering.proofs.WellMade.{well_formed}
use Rattle.core_lowering.specs.acceptance.Formed.{ProgramFormed}
use Rattle.core_lowering.proofs.acceptance.Whole.{accepted_definite}
use Rattle.core_lowering.proofs.acceptance.WholeTyped.{accepted_typed}
use Rattle.core_lowering.proofs.acceptance.Standing.{accepted_standing}

pub core_well_formed : (p : ProgramTree) → ProgramFormed p → IsAccepted p → length p.functions < 2 ^ 32 → IsWellFormed (lowered_program p)
core_well_formed p formed accepted few =
    well_formed p (accepted_definite p formed accepted) (accepted_typed p formed accepted) (accepted_standing p few accepted)

pub core_outcome : (p : ProgramTree) → ProgramFormed p → IsAccepted p → HasOutcomeOf p (lowered_program p)
core_outcome p formed accepted = outcome_same p (accepted_definite p formed accepted)
