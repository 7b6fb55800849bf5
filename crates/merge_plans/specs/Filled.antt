-- Frames of some extents that have an index.
use Rattle.std.specs.Prelude.{◌≡◌, List, map, ℤ, pos, ◌<ℤ◌, ◌-ℤ◌, true}
use Rattle.sac_base.specs.declared.grid.Grid1.{Grid1}
use Rattle.sac_base.specs.Grids.{has_vector}
use Rattle.core_ir.specs.Meaning.{extents}

pub record IsFilled (frame : List Grid1) (numbers : List ℤ) : Type 0 where
  pub extents_are : map pos (extents frame) ≡ numbers
  pub index : (v : List ℤ) × (has_vector frame v ≡ true)

-- so many numbers lie between the bounds, and one does
pub record IsFilledAxis (axis : Grid1) (number : ℤ) : Type 0 where
  pub rises : axis.lo <ℤ axis.hi
  pub number_is : axis.hi -ℤ axis.lo ≡ number
