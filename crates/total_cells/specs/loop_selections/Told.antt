-- Offsets of selections as the code holds them, and what is known of the values of what only selects.
use Rattle.std.specs.Prelude.{Bool, true, false, List, map, ℤ, Option, Some, None, Vec}
use Rattle.std.specs.declared.alloc.Global.{Global}
use Rattle.core_facts.specs.Facts.{Fact}
use Rattle.fact_table.specs.declared.known.Known.{Known}
use Rattle.fact_table.specs.Table.{fact_of}

abbrev pub offset_told : Option (Vec ℤ Global) → Option (List ℤ)
offset_told None = None
offset_told (Some numbers) = Some numbers.items

abbrev pub told : List (Option (Vec ℤ Global)) → List (Option (List ℤ))
told found = map offset_told found

abbrev pub known_if : Bool → List Fact → Option (List Fact)
known_if true fs = Some fs
known_if false fs = None

abbrev pub seen : Option (Vec Known Global) → Option (List Fact)
seen None = None
seen (Some known) = Some (map fact_of known.items)
