-- The places of cells in row-major order.
use Rattle.std.specs.Prelude.{ℕ, ◌/◌, ◌%◌, List, [], ◌∷◌, ℤ, pos, negsuc, Bool, false, nat_lt, Option, Some, None}
use Rattle.sac_base.specs.Arrays.{size}
use Rattle.sac_base.specs.Parts.{Part, part_at}

abbrev pub start_of : Option Part → Option ℕ
start_of None = None
start_of (Some part) = Some part.start

-- the place at which the part of an array of this shape at an index vector begins, or none where there is no such part
abbrev pub place_of : List ℕ → List ℤ → Option ℕ
place_of shape index = start_of (part_at shape index)

-- the index vector of a place
abbrev pub vector_at : List ℕ → ℕ → List ℤ
vector_at [] place = []
vector_at (n ∷ ns) place = pos (place / size ns) ∷ vector_at ns (place % size ns)

-- the number lies from 0 to below the other
abbrev pub is_below : ℤ → ℕ → Bool
is_below (pos i) n = nat_lt i n
is_below (negsuc i) n = false
