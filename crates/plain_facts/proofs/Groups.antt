-- Lists of lists, as they stand in memory.
use Rattle.std.proofs.Common.{ℕ, List, map, Option, Vec, Global}

abbrev pub shape_lists : List (Vec (Option (List ℕ)) Global) → List (List (Option (List ℕ)))
shape_lists groups = map (λ g. g.items) groups

abbrev pub group_lists : List (Vec ℕ Global) → List (List ℕ)
group_lists groups = map (λ g. g.items) groups
