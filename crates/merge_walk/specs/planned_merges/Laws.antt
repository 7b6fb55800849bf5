-- The statements of the laws.
use Rattle.std.specs.Prelude.{ℕ, List, All, Option}
use Rattle.sac_base.specs.declared.base.Base.{Base}
use Rattle.sac_base.specs.declared.grid.Grid1.{Grid1}
use Rattle.core_ir.specs.declared.tree.Var.{Var}
use Rattle.core_ir.specs.Terms.{BlockTerm, PartTerm, parts_of}
use Rattle.core_facts.specs.Facts.{Facts}
use Rattle.core_forms.specs.merge.Fresh.{MergesFresh}
use Rattle.core_forms.specs.merge.Walks.{BlockMerges}
use Rattle.core_forms.specs.norm.Copied.{IsPlaced}
use Rattle.merge_plans.specs.Mergeable.{IsMergeable}
use Rattle.merged_parts.specs.Merging.{PartFits}
use Rattle.merge_walk.specs.planned_merges.Planned.{MergesPlanned, PlannedMerges}

-- the parts of a loop that can be merged have what `merged_parts` asks
abbrev pub MergeablesFit : Type 0
MergeablesFit =
    (called : ℕ → List (Option (List ℕ))) (above : ℕ) (k : Facts) (frame : List Grid1) (base : Base) (cell : List ℕ) (parts : List PartTerm) →
    IsMergeable called above k frame base cell (parts_of parts) → All PartFits parts

-- where a loop stands in scope, and all variables are below the new ones, it becomes one whose variables are new
abbrev pub PlansAreFresh : Type 0
PlansAreFresh =
    (called : ℕ → List (Option (List ℕ))) (low high : ℕ) (k : Facts) (b c : BlockTerm) → MergesPlanned called low high k b c → (scope : List Var) →
    IsPlaced low scope b → MergesFresh called low high k b c

-- and so do many, one after another
abbrev pub WalksArePlaced : Type 0
WalksArePlaced =
    (called : ℕ → List (Option (List ℕ))) (k : Facts) (count low high : ℕ) (b c : BlockTerm) → PlannedMerges called k count low high b c →
    (scope : List Var) → IsPlaced low scope b → BlockMerges called k count low high b c
