use Rattle.std.proofs.Common.{◌≡◌, ◌-◌, ◌≤◌, length, false}
use Rattle.count_table.proofs.Bounds.{bound}
use Rattle.phase_count.proofs.alone.draw_all.Given as goal

abbrev pub invariant-loop : goal.invariant-loop
invariant-loop l = (l.seat.phase ≡ l.table) × (l.seat.holds ≡ l.initial.seat.holds) × (l.seat.ended ≡ false) × (bound l.seat.drawn ≤ length l.table.parts)

abbrev pub decreases-loop : goal.decreases-loop
decreases-loop l = length l.table.parts - bound l.seat.drawn
