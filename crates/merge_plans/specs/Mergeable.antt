-- Loops that can be merged with the loops in their cells, and the plan of such a merge.
use Rattle.std.specs.Prelude.{◌≡◌, ℕ, ◌+◌, ◌≤◌, List, ◌++◌, length, All, Option}
use Rattle.sac_base.specs.declared.base.Base.{Base}
use Rattle.sac_base.specs.declared.grid.Grid1.{Grid1}
use Rattle.core_ir.specs.declared.tree.PartedOp.TheVariants as parted
use Rattle.core_ir.specs.Terms.{RightTerm, PartsTerm, NoParts, Part}
use Rattle.core_ir.specs.WellFormed.{part_grids}
use Rattle.core_facts.specs.Facts.{Facts}
use Rattle.core_loops.specs.Pairs.{IsScalarisable, Nests}
use Rattle.merge_plans.specs.declared.planning.MergePlan.{MergePlan}

-- a grid has at most 8 axes
abbrev pub MOST_AXES : ℕ
MOST_AXES = 8

-- the grid of each inner part fits behind this one
abbrev pub FitBehind : List Grid1 → PartsTerm → Type 0
FitBehind grid inner = All (λ (g : List Grid1). length grid + length g ≤ MOST_AXES) (part_grids inner)

module _ (called : ℕ → List (Option (List ℕ))) (k : Facts) (frame : List Grid1) (base : Base) where
  abbrev pub GridsFit : (parts : PartsTerm) (count : ℕ) → Nests called k frame base parts count → Type 0
  GridsFit NoParts count w = Unit {0}
  GridsFit (Part h b rest) count w = FitBehind h.grid w.0 × GridsFit rest w.1.0 w.1.1.1

-- A scalarisable loop whose frame and grids, joined with those of its inner loops, have few axes. In a well-formed core those of the frames are few; a grid
-- without members may have any number.
pub record IsMergeable (called : ℕ → List (Option (List ℕ))) (above : ℕ) (k : Facts) (frame : List Grid1) (base : Base) (cell : List ℕ) (parts : PartsTerm) :
    Type 0 where
  pub scalarisable : IsScalarisable called above k base cell parts
  pub frames : length frame + length scalarisable.frame ≤ MOST_AXES
  pub grids : GridsFit called k scalarisable.frame base parts scalarisable.count scalarisable.nests

-- a right side that is such a loop
abbrev pub CanMerge : (ℕ → List (Option (List ℕ))) → ℕ → Facts → RightTerm → Type 0
CanMerge called above k (RightTerm.Parted frame base cell parted.Genarray parts) = IsMergeable called above k frame base cell parts
CanMerge called above k _ = ⊥

-- the plan has the frame of the merged loop
pub record IsMergePlan (called : ℕ → List (Option (List ℕ))) (above : ℕ) (k : Facts) (frame : List Grid1) (base : Base) (cell : List ℕ) (parts : PartsTerm)
    (plan : MergePlan) : Type 0 where
  pub mergeable : IsMergeable called above k frame base cell parts
  pub frame_is : plan.frame ≡ frame ++ mergeable.scalarisable.frame

abbrev pub PlanOf : (ℕ → List (Option (List ℕ))) → ℕ → Facts → RightTerm → MergePlan → Type 0
PlanOf called above k (RightTerm.Parted frame base cell parted.Genarray parts) plan = IsMergePlan called above k frame base cell parts plan
PlanOf called above k _ plan = ⊥
