-- Literal values as lists of numbers.
use Rattle.std.specs.Prelude.{Bool, true, false, ◌&&◌, not, List, [], ◌∷◌, ℤ, pos, int_le, int_lt}
use Rattle.std.specs.Ordering.{int_eq}

abbrev pub is_not_zero : ℤ → Bool
is_not_zero z = not (int_eq z (pos 0))

-- whether each component of an index lies in the extent at its place
abbrev pub are_components : List ℤ → List ℤ → Bool
are_components zs [] = true
are_components [] (i ∷ is) = false
are_components (z ∷ zs) (i ∷ is) = (int_le (pos 0) i && int_lt i z) && are_components zs is
