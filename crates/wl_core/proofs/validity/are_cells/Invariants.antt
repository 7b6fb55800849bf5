use Rattle.std.proofs.Common.{◌≡◌, ℕ, ◌<◌, ℤ, Some}
use Rattle.std.specs.Prelude.{slice_get}
use Rattle.sac_base.specs.Arrays.{IsCell}
use Rattle.wl_core.proofs.validity.are_cells.Given as goal

abbrev pub invariant-loop-cell : goal.invariant-loop-cell
invariant-loop-cell l = (k : ℕ) (z : ℤ) → k < l.cell-index → slice_get l.value k ≡ Some z → IsCell l.base z
