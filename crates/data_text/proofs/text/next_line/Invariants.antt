use Rattle.std.proofs.Common.{◌≡◌, ◌+◌, ◌<◌, ◌≤◌, ◌^◌, length}
use Rattle.data_text.specs.Texts.{data_lines}
use Rattle.data_text.proofs.text.next_line.Given as goal

abbrev pub invariant-loop-rest : goal.invariant-loop-rest
invariant-loop-rest l = (data_lines l.number l.rest ≡ data_lines l.before l.text) × (l.number + length l.rest < 2 ^ 64) × (l.before ≤ l.number) × (length l.rest ≤ length l.text)

abbrev pub decreases-loop-rest : goal.decreases-loop-rest
decreases-loop-rest l = length l.rest
