-- What can be seen of a loop without looking at each inner loop.
use Rattle.std.specs.Prelude.{ℕ, ◌+◌, ◌^◌, ◌≤◌, List, [], map, length, pos, Option, None, option_map}
use Rattle.sac_base.specs.declared.grid.Grid1.{Grid1}
use Rattle.core_ir.specs.declared.tree.PartedOp.TheVariants as parted
use Rattle.core_ir.specs.Terms.{RightTerm, PartsTerm, PartTerm, NoParts, Part, Parted}
use Rattle.merge_plans.specs.Filled.{IsFilled}
use Rattle.merge_plans.specs.Inners.{parts_in}
use Rattle.merge_plans.specs.Mergeable.{MOST_AXES}
use Rattle.merge_plans.specs.Openings.{Opened, opened}

abbrev pub frame_of : RightTerm → List Grid1
frame_of (Parted frame base cell op parts) = frame
frame_of _ = []

abbrev pub cell_of : RightTerm → List ℕ
cell_of (Parted frame base cell op parts) = cell
cell_of _ = []

-- whether it makes a new array
abbrev pub MakesArray : RightTerm → Type 0
MakesArray (Parted frame base cell parted.Genarray parts) = Unit {0}
MakesArray _ = ⊥

-- the frame of the first parted loop in a part's body
abbrev pub frame_seen : PartTerm → Option (List Grid1)
frame_seen p = option_map (λ (o : Opened). frame_of o.right) (opened p.body)

abbrev pub first_in : PartsTerm → Option (List Grid1)
first_in NoParts = None
first_in (Part h b rest) = frame_seen (record { head = h; body = b })

-- the frame of the inner loop of the first part
abbrev pub first_frame : RightTerm → Option (List Grid1)
first_frame r = first_in (parts_in r)

-- all but what is said of the inner loops
pub record IsSeen (above : ℕ) (outer : RightTerm) (inner : List Grid1) : Type 0 where
  pub numbers : above ≤ 2 ^ 31 + 1
  pub makes : MakesArray outer
  pub frames : length (frame_of outer) + length inner ≤ MOST_AXES
  pub filled : IsFilled inner (map pos (cell_of outer))
