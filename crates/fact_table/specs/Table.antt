-- The facts that a table's notes are.
use Rattle.std.specs.Prelude.{List, [], ◌∷◌, Option, Some, None}
use Rattle.core_facts.specs.Facts.{Fact, Facts, unknown, no_facts, note}
use Rattle.fact_table.specs.scoped_table.Notes as scoped
use Rattle.fact_table.specs.declared.known.Known.{Known}
use Rattle.fact_table.specs.Notes.{Note}

abbrev pub fact_of : Known → Fact
fact_of k = record { shape = k.shape; literal = k.literal; constant = k.constant }

-- the facts that notes are, the latest first
abbrev pub facts_of : List Note → Facts
facts_of [] = no_facts
facts_of (n ∷ rest) = note (facts_of rest) n.variable n.fact

-- of a variable without a note nothing is known
abbrev pub fact_or_none : Option Known → Fact
fact_or_none None = unknown
fact_or_none (Some k) = fact_of k

abbrev pub fact_note : scoped.Note Known → Note
fact_note n = record { variable = n.variable; fact = fact_or_none n.value }
