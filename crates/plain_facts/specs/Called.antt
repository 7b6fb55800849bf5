-- Known shapes of the results of groups, in a table by their numbers.
use Rattle.std.specs.Prelude.{ℕ, List, [], Option, slice_get, unwrap_or}

-- a group that is not there has none
abbrev pub shapes_of : List (List (Option (List ℕ))) → ℕ → List (Option (List ℕ))
shapes_of groups g = unwrap_or (slice_get groups g) []
