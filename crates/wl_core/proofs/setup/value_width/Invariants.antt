use Rattle.std.proofs.Common.{◌≡◌, ℕ, ◌<◌, slice_get, List, ℤ, Some, Ok}
use Rattle.wl_core.specs.Reading.{setup_of}
use Rattle.wl_core.proofs.setup.value_width.Given as goal

abbrev pub invariant-loop-cell : goal.invariant-loop-cell
invariant-loop-cell l = (p : ℕ) (value : List ℤ) → p < l.cell-index → slice_get (setup_of l.setup).cells p ≡ Some (Ok (Some value)) → ⊥
