use Rattle.std.proofs.Common.{ℕ, ◌<◌, ◌≤◌, ◌^◌}
use Rattle.std.specs.Prelude.{slice_index}
use Rattle.wl_core.proofs.validity.counts_fit.Given as goal

abbrev pub invariant-loop-count : goal.invariant-loop-count
invariant-loop-count l = (b : ℕ) → b < l.count-index → (1 ≤ slice_index l.counts b) × (slice_index l.counts b ≤ 2 ^ 62)
