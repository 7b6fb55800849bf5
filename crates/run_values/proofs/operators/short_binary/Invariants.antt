use Rattle.std.proofs.Common.{◌≡◌, drop, length, ◌≤◌}
use Rattle.sac_base.specs.Operators.{combined}
use Rattle.array_ops.proofs.Combining.{with_done}
use Rattle.run_values.specs.Numbers.{numbers}
use Rattle.run_values.proofs.operators.short_binary.Given as goal

abbrev pub invariant-loop-k : goal.invariant-loop-k
invariant-loop-k l =
    (with_done (numbers l.out) (combined l.op (drop l.k l.left) (drop l.k l.right)) ≡ combined l.op l.left l.right) × (length (numbers l.out) ≡ l.k) × (length l.left ≤ 8)
