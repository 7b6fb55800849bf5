use Rattle.variable_bases.proofs.Notes.{NumbersSoFar}
use Rattle.variable_bases.proofs.table.BaseTable.note_numbers.Given as goal

abbrev pub invariant-loop-x : goal.invariant-loop-x
invariant-loop-x l = NumbersSoFar l.xs l.x-index l.initial.self l.self
