-- The statements of the laws.
use Rattle.std.specs.Prelude.{◌≡◌, ℕ, List, Option}
use Rattle.core_ir.specs.declared.tree.Var.{Var}
use Rattle.core_ir.specs.Terms.{BlockTerm, CoreTerm}
use Rattle.core_ir.specs.WellFormed.{Bases, BlockBases, IsWellFormed}
use Rattle.sac_base.specs.declared.base.Base.{Base}
use Rattle.core_facts.specs.Facts.{Facts}
use Rattle.core_forms.specs.norm.Copied.{IsPlaced}
use Rattle.core_forms.specs.fold.Fresh.{FreshFoldOf}
use Rattle.core_forms.specs.fold.Walks.{FunctionFolds, Pair}
use Rattle.fold_walk.specs.fold_laws.Made.{FoldMadeOf}
use Rattle.fold_walk.specs.fold_laws.Walks.{FunctionFolded}

-- a pair that is folded by its plan, at its place in a well-formed function, is folded with new variables
abbrev pub PlansAreFresh : Type 0
PlansAreFresh =
    (core : CoreTerm) (called : ℕ → List (Option (List ℕ))) (x y : Var) (low high : ℕ) (k : Facts) (b c : BlockTerm) →
    FoldMadeOf called x y low high k b c → (scope : List Var) → IsPlaced low scope b → (g : Bases) (ts : List Base) → BlockBases core g b ts →
    FreshFoldOf called x y low high k b c

-- a well-formed core in a function of which pairs were folded by their plans is one in which they were folded with new variables
abbrev pub FoldedFunctionsAreFresh : Type 0
FoldedFunctionsAreFresh =
    (a b : CoreTerm) (place : ℕ) (pairs : List Pair) → FunctionFolded a b place pairs → IsWellFormed a →
    (walk : FunctionFolds a b pairs) × (walk.place ≡ place)
