-- What variables are by a table's notes.
use Rattle.std.specs.Prelude.{List, [], ◌∷◌, Option, Some, None}
use Rattle.core_ir.specs.declared.tree.Var.{Var}
use Rattle.core_loops.specs.Indices.{IndexFact, IndexFacts, Plus, Component, Other, note_index}
use Rattle.fact_table.specs.scoped_table.Notes as scoped
use Rattle.index_table.specs.declared.relation.Relation.{Relation}
use Rattle.index_table.specs.declared.relation.Relation.TheVariants as relation
use Rattle.index_table.specs.Notes.{Note}

abbrev pub index_of : Relation → IndexFact
index_of (relation.Plus numbers) = Plus numbers.items
index_of (relation.Component axis number) = Component axis number
index_of relation.Other = Other

abbrev pub no_indices : IndexFacts
no_indices x = Other

-- what variables are by notes, the latest first
abbrev pub indices_of : List Note → IndexFacts
indices_of [] = no_indices
indices_of (n ∷ rest) = note_index (indices_of rest) n.variable n.fact

-- a variable without a note has no relation to the index
abbrev pub index_or_other : Option Relation → IndexFact
index_or_other None = Other
index_or_other (Some r) = index_of r

abbrev pub index_note : scoped.Note Relation → Note
index_note n = record { variable = n.variable; fact = index_or_other n.value }
