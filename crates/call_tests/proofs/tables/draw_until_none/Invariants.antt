use Rattle.std.proofs.Common.{◌≡◌, false}
use Rattle.call_tests.proofs.tables.draw_until_none.Given as goal

abbrev pub invariant-loop-turn : goal.invariant-loop-turn
invariant-loop-turn l = (l.seat.phase ≡ l.phase) × (l.seat.holds ≡ l.initial.seat.holds) × (l.seat.ended ≡ false)
