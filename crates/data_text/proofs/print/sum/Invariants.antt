use Rattle.std.proofs.Common.{◌≡◌, ◌*◌, take, pos, ◌+ℤ◌, neg_ℤ, ◌≤ℤ◌, fold}
use Rattle.data_text.proofs.print.sum.Given as goal

abbrev pub invariant-loop-cell : goal.invariant-loop-cell
invariant-loop-cell l =
    (l.sum ≡ fold ◌+ℤ◌ (pos 0) (take l.cell-index l.cells)) × (neg_ℤ (pos (2147483648 * l.cell-index)) ≤ℤ l.sum) × (l.sum ≤ℤ pos (2147483648 * l.cell-index))
