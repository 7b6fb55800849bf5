-- Grids: sets of whole numbers, and of index vectors, that repeat with a step.
use Rattle.std.specs.Prelude.{◌≡◌, ℕ, zero, suc, Bool, ◌&&◌, cond, true, false, ℤ, pos, ◌+ℤ◌, ◌-ℤ◌, int_lt, int_le, List, [], ◌∷◌, map, filter, count_by}
use Rattle.std.specs.Int.{int_rem_euclid, int_gap}
use Rattle.std.specs.List.{flat_map}
use Rattle.sac_base.specs.declared.grid.Grid1.{Grid1}

-- from `from` on, and below `to`
unfoldable pub within : ℤ → ℤ → ℤ → Bool
within from to x = int_le from x && int_lt x to

-- whether the number is a member of the grid of one axis
unfoldable pub has_index : Grid1 → ℤ → Bool
has_index g x = within g.lo g.hi x && int_lt (int_rem_euclid (x -ℤ g.lo) g.step) g.width

-- whether the vector is a member of the grid: as long as there are axes, each component a member of its axis
abbrev pub has_vector : List Grid1 → List ℤ → Bool
has_vector [] [] = true
has_vector [] (x ∷ xs) = false
has_vector (g ∷ gs) [] = false
has_vector (g ∷ gs) (x ∷ xs) = has_index g x && has_vector gs xs

-- No vector is a member of both grids.
abbrev pub AreDisjoint : List Grid1 → List Grid1 → Type 0
AreDisjoint g h = (v : List ℤ) → (has_vector g v && has_vector h v) ≡ false

-- in how many of the pieces the number is
abbrev pub times : List Grid1 → ℤ → ℕ
times pieces x = count_by (λ p. has_index p x) pieces

-- The pieces are disjoint, and their members are those of the set: a number of the set is in one piece, and any other in none.
abbrev pub Splits : List Grid1 → (ℤ → Bool) → Type 0
Splits pieces set = (x : ℤ) → times pieces x ≡ cond (set x) 1 0

-- in how many of the pieces the vector is
abbrev pub times_vector : List (List Grid1) → List ℤ → ℕ
times_vector pieces v = count_by (λ p. has_vector p v) pieces

-- The same of pieces with several axes.
abbrev pub SplitsVectors : List (List Grid1) → (List ℤ → Bool) → Type 0
SplitsVectors pieces set = (v : List ℤ) → times_vector pieces v ≡ cond (set v) 1 0

-- so many whole numbers, one after the other
abbrev pub numbers_from : ℤ → ℕ → List ℤ
numbers_from from zero = []
numbers_from from (suc n) = from ∷ numbers_from (from +ℤ pos 1) n

-- The index vectors of the box from the lower to below the upper bounds, in row-major order.
abbrev pub box_indices : List ℤ → List ℤ → List (List ℤ)
box_indices [] his = [] ∷ []
box_indices (lo ∷ los) [] = [] ∷ []
box_indices (lo ∷ los) (hi ∷ his) = flat_map (λ x. map (λ v. x ∷ v) (box_indices los his)) (numbers_from lo (int_gap lo hi))

-- the members of a grid in row-major order
abbrev pub members : List Grid1 → List (List ℤ)
members g = filter (has_vector g) (box_indices (map (λ axis. axis.lo) g) (map (λ axis. axis.hi) g))
