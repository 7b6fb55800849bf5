use Rattle.variable_bases.proofs.Notes.{TakesSoFar}
use Rattle.variable_bases.proofs.table.BaseTable.take_each.Given as goal

abbrev pub invariant-loop-k : goal.invariant-loop-k
invariant-loop-k l = TakesSoFar l.xs l.sources l.k l.initial.self l.self
