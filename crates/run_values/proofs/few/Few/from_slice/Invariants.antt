use Rattle.std.proofs.Common.{◌≡◌, take, length, ◌≤◌}
use Rattle.run_values.specs.Numbers.{numbers}
use Rattle.run_values.proofs.few.Few.from_slice.Given as goal

abbrev pub invariant-loop-n : goal.invariant-loop-n
invariant-loop-n l = (numbers l.few ≡ take l.n-index l.list) × (length l.list ≤ 8)
