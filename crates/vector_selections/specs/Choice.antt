-- The selection that the code chooses.
use Rattle.std.specs.Prelude.{Option, Some, None}
use Rattle.core_forms.specs.selections.Vectors.{Selection as SelectionTerm}
use Rattle.vector_selections.specs.declared.choice.Selection.{Selection}

abbrev pub chosen : Option Selection → Option SelectionTerm
chosen None = None
chosen (Some s) = Some (record { array = s.array; index = s.index })
