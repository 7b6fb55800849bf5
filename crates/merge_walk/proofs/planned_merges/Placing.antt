-- Steps of a rule that asks what is in scope where it is used.
use Rattle.std.proofs.Common.{ℕ, List, Option}
use Rattle.core_ir.specs.declared.tree.Var.{Var}
use Rattle.core_ir.specs.Terms.{BlockTerm}
use Rattle.core_facts.specs.Facts.{Facts}
use Rattle.core_forms.specs.norm.Copied.{IsPlaced}
use Rattle.core_forms.specs.norm.Walks.{done, step}
use Rattle.core_forms.proofs.norm.Placement.{step_placed}
use Rattle.core_forms.specs.merge.Fresh.{MergesFresh}
use Rattle.core_forms.specs.merge.Walks.{BlockMerges}
use Rattle.core_forms.proofs.merge.Placing.{place_kept}
use Rattle.merge_walk.specs.planned_merges.Planned.{MergesPlanned, PlannedMerges}
use Rattle.merge_walk.proofs.planned_merges.Whole.{fresh}

pub walks_placed :
    (calls : ℕ → List (Option (List ℕ))) (k : Facts) (count low high : ℕ) (b c : BlockTerm) → PlannedMerges calls k count low high b c → (scope : List Var) → IsPlaced low scope b → BlockMerges calls k count low high b c
walks_placed calls k count low high b c walk scope p = go walk p
  where
    go : {count low high : ℕ} {b c : BlockTerm} → PlannedMerges calls k count low high b c → IsPlaced low scope b → BlockMerges calls k count low high b c
    go (done l) p = done l
    go (step {low = low} {mid = mid} {a = b} h rest) p =
        let g = step_placed calls low (MergesPlanned calls low mid) (MergesFresh calls low mid) (fresh calls low mid) h scope p in
        step g (go rest (place_kept calls g scope p))
