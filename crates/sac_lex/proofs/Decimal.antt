-- What digits spell, digit by digit.
use Rattle.std.proofs.Common.{ℕ, ◌≤◌, ◌+◌, ◌*◌, List, [], ◌∷◌, arith}
use Rattle.std.specs.Char.{digit_value}
use Rattle.std.specs.Str.Parse.{digits_value_after}

pub number_grows : (ds : List ℕ) (n : ℕ) → n ≤ digits_value_after 10 n ds
number_grows [] n = omega arith
number_grows (d ∷ ds) n = let h = number_grows ds (n * 10 + digit_value d) in omega arith
