-- Lists of lists, as they stand in memory.
use Rattle.std.proofs.Common.{ℕ, List, map, Option, Vec, Global}
use Rattle.sac_base.specs.declared.base.Base.{Base}

abbrev pub base_lists : List (Vec (Option Base) Global) → List (List (Option Base))
base_lists groups = map (λ g. g.items) groups

abbrev pub group_lists : List (Vec ℕ Global) → List (List ℕ)
group_lists groups = map (λ g. g.items) groups
