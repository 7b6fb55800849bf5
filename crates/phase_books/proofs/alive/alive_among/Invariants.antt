use Rattle.run_values.specs.Scopes.{current}
use Rattle.phase_books.specs.Alive.{AreAlive}
use Rattle.phase_books.proofs.alive.alive_among.Given as goal

abbrev pub invariant-loop-x : goal.invariant-loop-x
invariant-loop-x l = AreAlive l.heap (current l.frames) l.alive.items
