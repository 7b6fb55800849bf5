-- Blocks in which no loop can be merged with the loops in its cells.
use Rattle.std.specs.Prelude.{ℕ, List, [], ◌∷◌, Option}
use Rattle.core_ir.specs.declared.tree.Var.{Var}
use Rattle.core_ir.specs.Terms.{BlockTerm, RightTerm, Gives, Bind}
use Rattle.core_facts.specs.Facts.{Facts}
use Rattle.core_walk.specs.Editing.{EachBinding}
use Rattle.merge_plans.specs.Mergeable.{CanMerge}

module _ (called : ℕ → List (Option (List ℕ))) (above : ℕ) where
  -- the right side of a binding is no such loop; only a binding of one variable is read
  abbrev pub NoneHere : List Var → RightTerm → Facts → Type 0
  NoneHere (x ∷ []) r k = CanMerge called above k r → ⊥
  NoneHere _ r k = Unit {0}

  -- no such loop is bound first
  abbrev pub NoneFirst : Facts → BlockTerm → Type 0
  NoneFirst k (Gives xs) = Unit {0}
  NoneFirst k (Bind xs s r b) = NoneHere xs r k

  abbrev pub NoneMergeable : BlockTerm → Facts → Type 0
  NoneMergeable b k = EachBinding called NoneFirst b k
