-- A walk is a walk of merges with new variables.
use Rattle.std.proofs.Common.{◌≡◌, ℕ, ◌≤◌, List, Option, refl, arith}
use Rattle.core_ir.specs.declared.tree.Var.{Var}
use Rattle.core_ir.specs.Terms.{BlockTerm}
use Rattle.core_facts.specs.Facts.{Facts}
use Rattle.core_forms.specs.norm.Copied.{IsPlaced}
use Rattle.core_forms.specs.norm.Walks.{done, step}
use Rattle.core_forms.specs.merge.Walks.{BlockMerges}
use Rattle.merge_walk.specs.planned_merges.Planned.{PlannedMerges}
use Rattle.merge_walk.proofs.planned_merges.Placing.{walks_placed}
use Rattle.merge_walk.specs.Walking.{Walk, BlockStep, stays, goes}

module _ (called : ℕ → List (Option (List ℕ))) (k : Facts) where
  itself : (n : ℕ) → n ≤ n
  itself n = omega arith

  steps_of : {count low high : ℕ} {b c : BlockTerm} → Walk BlockTerm (BlockStep called k) count low high b c → PlannedMerges called k count low high b c
  steps_of (stays {low = low}) = done (itself low)
  steps_of (goes h rest) = step h (steps_of rest)

  pub walk_is : (count low high : ℕ) (b c : BlockTerm) → Walk BlockTerm (BlockStep called k) count low high b c → (scope : List Var) → IsPlaced low scope b → BlockMerges called k count low high b c
  walk_is count low high b c w scope placed = walks_placed called k count low high b c (steps_of w) scope placed

  -- where nothing was merged, nothing was changed
  pub still : {count low high : ℕ} {b c : BlockTerm} → Walk BlockTerm (BlockStep called k) count low high b c → count ≡ 0 → c ≡ b
  still stays e = refl
  still (goes h rest) e = absurd (omega (arith, e))
