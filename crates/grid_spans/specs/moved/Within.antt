-- Grids that are moved, inside of a frame.
use Rattle.std.specs.Prelude.{◌≡◌, true, List, [], ◌∷◌, ℤ, pos, ◌+ℤ◌, ◌≤ℤ◌, ◌<ℤ◌}
use Rattle.sac_base.specs.declared.grid.Grid1.{Grid1}
use Rattle.sac_base.specs.Grids.{has_index, has_vector}
use Rattle.generator_sets.specs.Pieces.{moved}

-- each member of the grid, moved by the vector, is one of the frame
abbrev pub IsWithin : List Grid1 → List ℤ → List Grid1 → Type 0
IsWithin g c f = (v : List ℤ) → has_vector g v ≡ true → has_vector f (moved v c) ≡ true

-- ---- axis by axis

abbrev pub HasMember : Grid1 → Type 0
HasMember g = (x : ℤ) × (has_index g x ≡ true)

abbrev pub HaveMembers : List Grid1 → Type 0
HaveMembers [] = Unit {0}
HaveMembers (g ∷ gs) = HasMember g × HaveMembers gs

-- all members, with a number added, lie between the bounds of a range
abbrev pub IsAxisWithin : Grid1 → ℤ → Grid1 → Type 0
IsAxisWithin g c f = (x : ℤ) → has_index g x ≡ true → (f.lo ≤ℤ (x +ℤ c)) × ((x +ℤ c) <ℤ f.hi)

-- where there is no number, nothing is added
abbrev pub number_at_first : List ℤ → ℤ
number_at_first [] = pos 0
number_at_first (c ∷ cs) = c

abbrev pub numbers_behind : List ℤ → List ℤ
numbers_behind [] = []
numbers_behind (c ∷ cs) = cs

abbrev pub AreWithin : List Grid1 → List ℤ → List Grid1 → Type 0
AreWithin [] cs [] = Unit {0}
AreWithin [] cs (f ∷ fs) = ⊥
AreWithin (g ∷ gs) cs [] = ⊥
AreWithin (g ∷ gs) cs (f ∷ fs) = IsAxisWithin g (number_at_first cs) f × AreWithin gs (numbers_behind cs) fs
