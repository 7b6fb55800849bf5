use Rattle.std.proofs.Common.{◌≡◌, length}
use Rattle.code_nesting.proofs.needs.pass_over_uncalled.Given as goal

abbrev pub invariant-loop-place : goal.invariant-loop-place
invariant-loop-place l = length l.here.items ≡ length l.initial.here.items
