-- The box of a grid.
use Rattle.std.specs.Prelude.{ℕ, pos, ◌-ℤ◌, List, map}
use Rattle.sac_base.specs.declared.grid.Grid1.{Grid1}
use Rattle.sac_base.specs.WithLoops.{Range, distance}

-- the box without gaps
abbrev pub box_range : List Grid1 → Range
box_range g = map (λ (a : Grid1). record { lower = a.lo; upper = a.hi; step = pos 1; width = pos 1 }) g

-- how many numbers each axis goes through
abbrev pub grid_extents : List Grid1 → List ℕ
grid_extents g = map (λ (a : Grid1). distance (a.hi -ℤ a.lo)) g
