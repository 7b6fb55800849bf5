-- Grids as ranges of generators.
use Rattle.std.specs.Prelude.{◌≡◌, List, ℤ}
use Rattle.sac_base.specs.declared.grid.Grid1.{Grid1}
use Rattle.sac_base.specs.Grids.{has_vector}
use Rattle.sac_base.specs.WithLoops.{Range, holds}
use Rattle.array_with_loops.specs.Ranges.{IsBound, IsStep}

-- the range holds the members of the grid, and no other vector
abbrev pub HasMembersOf : List Grid1 → Range → Type 0
HasMembersOf grid r = (v : List ℤ) → holds r v ≡ has_vector grid v

-- its numbers are those of a range's component
pub record HasWords (g : Grid1) : Type 0 where
  pub lo : IsBound g.lo
  pub hi : IsBound g.hi
  pub step : IsStep g.step
  pub width : IsStep g.width
