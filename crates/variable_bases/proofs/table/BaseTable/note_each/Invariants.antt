use Rattle.variable_bases.proofs.Notes.{NotesSoFar}
use Rattle.variable_bases.proofs.table.BaseTable.note_each.Given as goal

abbrev pub invariant-loop-k : goal.invariant-loop-k
invariant-loop-k l = NotesSoFar l.xs l.bases l.k l.initial.self l.self
