use Rattle.std.proofs.Common.{◌≡◌, take, length, ◌≤◌, map}
use Rattle.sac_base.specs.Operators.{apply_one}
use Rattle.run_values.specs.Numbers.{numbers}
use Rattle.run_values.proofs.operators.short_unary.Given as goal

abbrev pub invariant-loop-n : goal.invariant-loop-n
invariant-loop-n l = (numbers l.out ≡ map (apply_one l.op) (take l.n-index l.n-items)) × (length l.n-items ≤ 8)
