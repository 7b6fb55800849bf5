-- What stands for a variable by the notes of a table.
use Rattle.std.specs.Prelude.{cond, eqb, List, [], ◌∷◌, unwrap_or}
use Rattle.core_ir.specs.declared.tree.Var.{Var}
use Rattle.fact_table.specs.scoped_table.Notes as scoped
use Rattle.copy_propagation.specs.Notes.{Note}

-- the source of the latest note of the variable, or itself
abbrev pub source_in : List Note → Var → Var
source_in [] x = x
source_in (n ∷ rest) x = cond (eqb n.variable.0 x.0) n.source (source_in rest x)

abbrev pub source_note : scoped.Note Var → Note
source_note n = record { variable = n.variable; source = unwrap_or n.value n.variable }
