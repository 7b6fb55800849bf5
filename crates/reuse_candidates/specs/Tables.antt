-- The bases that a table's notes are, and what tables know together.
use Rattle.std.specs.Prelude.{List, [], ◌∷◌, Option, Some, None}
use Rattle.sac_base.specs.declared.base.Base.{Base}
use Rattle.fact_table.specs.Notes as fact
use Rattle.fact_table.specs.Table.{facts_of}
use Rattle.fact_table.specs.scoped_table.Notes.{Note}
use Rattle.counted_marks.specs.Bases.{BaseFacts, no_bases, note_base}
use Rattle.counted_marks.specs.Known.{Known}

abbrev pub base_noted : Option (Option Base) → Option Base
base_noted None = None
base_noted (Some t) = t

-- the bases that notes are, the latest first
abbrev pub bases_of : List (Note (Option Base)) → BaseFacts
bases_of [] = no_bases
bases_of (n ∷ rest) = note_base (bases_of rest) n.variable (base_noted n.value)

abbrev pub known_by : List fact.Note → List (Note (Option Base)) → Known
known_by facts bases = record { facts = facts_of facts; bases = bases_of bases }
