use Rattle.std.proofs.Common.{◌≡◌, ◌+◌, ◌<◌, ◌≤◌, ◌^◌, length}
use Rattle.data_text.specs.Texts.{data_lines}
use Rattle.data_text.proofs.text.count_lines.Given as goal

abbrev pub invariant-loop-found : goal.invariant-loop-found
invariant-loop-found l = (l.count + length (data_lines l.before l.rest) ≡ length (data_lines 0 l.text)) × (l.before + length l.rest < 2 ^ 64) × (l.count ≤ l.before)

abbrev pub decreases-loop-found : goal.decreases-loop-found
decreases-loop-found l = length l.rest
