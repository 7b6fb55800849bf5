-- Grids of several axes as pieces of a frame.
use Rattle.std.specs.Prelude.{◌≡◌, ℕ, Bool, ◌&&◌, true, false, ℤ, ◌+ℤ◌, List, [], ◌∷◌, map}
use Rattle.std.specs.List.{All, flat_map, slice_get}
use Rattle.std.specs.Option.{option_to_list}
use Rattle.sac_base.specs.declared.grid.Grid1.{Grid1}
use Rattle.sac_base.specs.Grids.{has_vector, within}

-- whether each component lies between the bounds of its axis
abbrev pub in_box : List Grid1 → List ℤ → Bool
in_box [] [] = true
in_box [] (x ∷ xs) = false
in_box (g ∷ gs) [] = false
in_box (g ∷ gs) (x ∷ xs) = within g.lo g.hi x && in_box gs xs

-- the first vector of a grid
abbrev pub lows : List Grid1 → List ℤ
lows [] = []
lows (g ∷ gs) = g.lo ∷ lows gs

-- Each generator has all members of the piece or none, as it has the first vector.
abbrev pub IsUniformVector : List (List Grid1) → List Grid1 → Type 0
IsUniformVector generators p = All (λ g. (v : List ℤ) → has_vector p v ≡ true → has_vector g v ≡ has_vector g (lows p)) generators

-- each of the first axis with each grid of the other axes
abbrev pub products : List Grid1 → List (List Grid1) → List (List Grid1)
products firsts rests = flat_map (λ first. map (λ rest. first ∷ rest) rests) firsts

-- the generators' grids of one axis
abbrev pub axis_grids : ℕ → List (List Grid1) → List Grid1
axis_grids k generators = flat_map (λ g. option_to_list (slice_get g k)) generators

-- the vector moved by another
abbrev pub moved : List ℤ → List ℤ → List ℤ
moved [] by = []
moved (x ∷ xs) [] = x ∷ xs
moved (x ∷ xs) (y ∷ ys) = (x +ℤ y) ∷ moved xs ys
