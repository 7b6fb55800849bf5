use Rattle.std.proofs.Common.{◌≡◌, ◌≤◌, map, take, length, vec_capacity}
use Rattle.sac_base.specs.Operators.{apply_one}
use Rattle.array_ops.proofs.elements.unary.Given as goal

abbrev pub invariant-loop-cell : goal.invariant-loop-cell
invariant-loop-cell l = (l.values.items ≡ map (apply_one l.op) (take l.cell-index l.cells)) × (length l.cells ≤ vec_capacity l.values)
