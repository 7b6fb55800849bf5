use Rattle.std.proofs.Common.{◌≡◌, length}
use Rattle.code_nesting.proofs.needs.settle.Given as goal

abbrev pub invariant-loop-round : goal.invariant-loop-round
invariant-loop-round l = length l.here.items ≡ length l.code.functions.items
