use Rattle.std.proofs.Common.{◌≡◌, ℕ, ◌<◌, Some}
use Rattle.std.specs.Prelude.{slice_get}
use Rattle.wl_core.specs.Machine.{CellValue, CellFits}
use Rattle.wl_core.specs.Reading.{setup_of}
use Rattle.wl_core.proofs.validity.is_setup.Given as goal

abbrev pub invariant-loop-cell : goal.invariant-loop-cell
invariant-loop-cell l = (p : ℕ) (x : CellValue) → p < l.cell-index → slice_get (setup_of l.setup).cells p ≡ Some x → CellFits l.setup.job l.width x
