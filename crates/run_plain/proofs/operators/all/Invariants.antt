use Rattle.std.proofs.Common.{◌≡◌, ◌≤◌, length, take, map}
use Rattle.run_values.specs.Numbers.{numbers}
use Rattle.run_plain.proofs.operators.all.Given as goal

abbrev pub invariant-loop-other : goal.invariant-loop-other
invariant-loop-other l = (numbers l.out ≡ map (λ _. l.n) (take l._other-index l._other-items)) × (length l._other-items ≤ 8)
