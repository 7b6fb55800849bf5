-- What acceptance says of the core that was made.
use Rattle.std.proofs.Common.{◌≡◌, ◌<◌, ◌^◌, List, length, Result, Ok, Err, IfOk, sym, subst, arith}
use Rattle.std.proofs.lemmas.List.{length-map}
use Rattle.sac_base.specs.declared.memory.Memory.{Memory}
use Rattle.sac_ast.specs.declared.Function.{Function}
use Rattle.sac_ast.specs.Tree.{ProgramTree}
use Rattle.sac_ast.specs.View.{function, functions}
use Rattle.core_ir.specs.declared.tree.Core.{Core}
use Rattle.core_ir.specs.View.{core_term}
use Rattle.core_ir.specs.WellFormed.{IsWellFormed}
use Rattle.check_rules.specs.Accepted.{IsAccepted}
use Rattle.core_lowering.specs.Programs.{HasOutcomeOf, lowered_program}
use Rattle.core_lowering.specs.acceptance.Formed.{ProgramFormed}
use Rattle.core_lowering.proofs.acceptance.Cores.{core_well_formed, core_outcome}

pub as_many : (fs : List Function) → length fs < 2 ^ 32 → length (functions fs) < 2 ^ 32
as_many fs few =
    let same = length-map fs function in
    omega arith

pub well_formed : (p : ProgramTree) (r : Result Core Memory) → length p.functions < 2 ^ 32 → IfOk r (λ core. core_term core ≡ lowered_program p)
    → ProgramFormed p → IsAccepted p → IfOk r (λ core. IsWellFormed (core_term core))
well_formed p (Ok core) few is formed accepted = subst IsWellFormed (sym is) (core_well_formed p formed accepted few)
well_formed p (Err e) few is formed accepted = tt

pub same_outcome : (p : ProgramTree) (r : Result Core Memory) → IfOk r (λ core. core_term core ≡ lowered_program p)
    → ProgramFormed p → IsAccepted p → IfOk r (λ core. HasOutcomeOf p (core_term core))
same_outcome p (Ok core) is formed accepted = subst (HasOutcomeOf p) (sym is) (core_outcome p formed accepted)
same_outcome p (Err e) is formed accepted = tt
