use Rattle.std.proofs.Common.{◌≡◌, ◌≤◌, drop}
use Rattle.data_text.proofs.NumberFacts.{bounded_after}
use Rattle.data_text.proofs.number.magnitude.Given as goal

abbrev pub invariant-loop-digit : goal.invariant-loop-digit
invariant-loop-digit l = (bounded_after l.value (drop l.digit-index l.digits) ≡ bounded_after 0 l.digits) × (l.value ≤ 4294967296)
