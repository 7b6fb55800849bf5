-- Members of axes inside of extents.
use Rattle.std.specs.Prelude.{◌≡◌, ◌&&◌, true, List, [], ◌∷◌, ℤ, pos, ◌+ℤ◌, ◌≤ℤ◌, ◌<ℤ◌}
use Rattle.sac_base.specs.declared.grid.Grid1.{Grid1}
use Rattle.sac_base.specs.Grids.{has_index}
use Rattle.grid_spans.specs.moved.Within.{number_at_first, numbers_behind}

-- all members, with a number added, are from 0 on and below an extent
abbrev pub IsAxisInside : Grid1 → ℤ → ℤ → Type 0
IsAxisInside g extent number = (x : ℤ) → has_index g x ≡ true → (pos 0 ≤ℤ (x +ℤ number)) × ((x +ℤ number) <ℤ extent)

-- axis by axis; there may be more extents than axes
abbrev pub AreInside : List Grid1 → List ℤ → List ℤ → Type 0
AreInside [] zs cs = Unit {0}
AreInside (g ∷ gs) [] cs = ⊥
AreInside (g ∷ gs) (z ∷ zs) cs = IsAxisInside g z (number_at_first cs) × AreInside gs zs (numbers_behind cs)
