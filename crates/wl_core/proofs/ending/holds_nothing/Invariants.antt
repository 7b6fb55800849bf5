use Rattle.std.proofs.Common.{◌≡◌, ℕ, ◌<◌}
use Rattle.std.specs.Prelude.{slice_index}
use Rattle.wl_core.proofs.ending.holds_nothing.Given as goal

abbrev pub invariant-loop-total : goal.invariant-loop-total
invariant-loop-total l = (w : ℕ) → w < l.total-index → slice_index l.state.held.items w ≡ 0
