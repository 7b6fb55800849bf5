use Rattle.std.proofs.Common.{◌≡◌, ◌≤◌, drop, length, vec_capacity}
use Rattle.sac_base.specs.Operators.{combined}
use Rattle.array_ops.specs.Operands.{cells_of}
use Rattle.array_ops.proofs.Combining.{with_done}
use Rattle.array_ops.proofs.elements.combine.Given as goal

abbrev pub invariant-loop-k : goal.invariant-loop-k
invariant-loop-k l =
    (with_done l.values.items (combined l.op (drop l.k (cells_of l.n l.left)) (drop l.k (cells_of l.n l.right))) ≡ combined l.op (cells_of l.n l.left) (cells_of l.n l.right))
    × (length l.values.items ≡ l.k) × (l.n ≤ vec_capacity l.values)
