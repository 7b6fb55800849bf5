use Rattle.std.proofs.Common.{◌≡◌, false, length}
use Rattle.code_nesting.proofs.Closed.{ClosedBelow}
use Rattle.code_nesting.proofs.needs.raise.Given as goal

abbrev pub invariant-loop-place : goal.invariant-loop-place
invariant-loop-place l = (length l.here.items ≡ length l.code.functions.items) × (l.risen ≡ false → ClosedBelow l.code l.below l.here.items l.place)
