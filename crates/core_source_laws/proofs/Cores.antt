-- The core of an accepted program that is read from a source.
use Rattle.std.proofs.Common.{ℕ, ◌<◌, ◌^◌, List, length, arith}
use Rattle.sac_ast.specs.Tree.{ProgramTree}
use Rattle.core_ir.specs.WellFormed.{IsWellFormed}
use Rattle.core_lowering.specs.Programs.{HasOutcomeOf, lowered_program}
use Rattle.core_lowering.specs.acceptance.Formed.{ProgramFormed}
use Rattle.core_lowering.specs.acceptance.Stands.{MainStands}
use Rattle.core_lowering.proofs.acceptance.Cores as accepted
use Rattle.core_lowering.proofs.acceptance.Mains.{accepted_main}
use Rattle.sac_due.specs.Source.{IsProgramOf}
use Rattle.core_source_laws.proofs.Read.{formed, few}

pub source_formed : (source : List ℕ) (p : ProgramTree) → IsProgramOf source p → ProgramFormed p
source_formed source p h = formed source h.tree.tokens p h.tree.cut h.tree.tree.0

source_few : (source : List ℕ) (p : ProgramTree) → IsProgramOf source p → length p.functions < 2 ^ 32
source_few source p h =
    let a = few source h.tree.tokens p h.tree.cut h.tree.tree.0 in
    omega arith

pub core_well_formed : (source : List ℕ) (p : ProgramTree) → IsProgramOf source p → IsWellFormed (lowered_program p)
core_well_formed source p h = accepted.core_well_formed p (source_formed source p h) h.accepted (source_few source p h)

pub core_outcome : (source : List ℕ) (p : ProgramTree) → IsProgramOf source p → HasOutcomeOf p (lowered_program p)
core_outcome source p h = accepted.core_outcome p (source_formed source p h) h.accepted

pub core_main : (source : List ℕ) (p : ProgramTree) → IsProgramOf source p → MainStands (lowered_program p)
core_main source p h = accepted_main p h.accepted
