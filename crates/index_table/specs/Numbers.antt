-- Numbers of literal values, added to the index or taken from it.
use Rattle.std.specs.Prelude.{ℕ, Bool, true, false, List, [], ◌∷◌, ◌++◌, map, ℤ, ◌+ℤ◌, ◌-ℤ◌, Option, Some, None, Vec}
use Rattle.std.specs.declared.alloc.Global.{Global}
use Rattle.sac_base.specs.Operators.{wrap}
use Rattle.core_ir.specs.declared.tree.Var.{Var}
use Rattle.core_loops.specs.Indices.{IndexFact, IndexFacts, components_from, row_fact}
use Rattle.index_table.specs.declared.numbers.Change.{Change}
use Rattle.index_table.specs.declared.numbers.Change.TheVariants.{Added, Taken}

abbrev pub is_added : Change → Bool
is_added Added = true
is_added Taken = false

abbrev pub step : Change → ℤ → ℤ → ℤ
step Added a b = wrap (a +ℤ b)
step Taken a b = wrap (a -ℤ b)

abbrev pub steps : Change → List ℤ → List ℤ → List ℤ
steps change (c ∷ cs) (d ∷ ds) = step change c d ∷ steps change cs ds
steps change _ _ = []

abbrev pub items_of : Option (Vec ℤ Global) → Option (List ℤ)
items_of None = None
items_of (Some numbers) = Some numbers.items

abbrev pub row_of : ℕ → List Var → IndexFacts → IndexFact
row_of n xs m = row_fact n (components_from 0 (map m xs))

-- numbers before those of a list
abbrev pub behind : List ℤ → Option (List ℤ) → Option (List ℤ)
behind ns None = None
behind ns (Some ds) = Some (ns ++ ds)
