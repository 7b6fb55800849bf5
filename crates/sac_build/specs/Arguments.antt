-- Arguments that are arrays.
use Rattle.std.specs.Prelude.{List, [], ◌∷◌}
use Rattle.sac_base.specs.Arrays.{ArrayValue, IsFull, IsWellTyped}

-- each has as many elements as its shape says, and they are of its base, so that a truth value is 0 or 1
abbrev pub AreArrays : List ArrayValue → Type 0
AreArrays [] = Unit {0}
AreArrays (a ∷ as') = (IsFull a × IsWellTyped a) × AreArrays as'
