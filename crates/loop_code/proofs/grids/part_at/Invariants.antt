use Rattle.std.proofs.Common.{◌≡◌, ℕ, ◌<◌, ◌≤◌, false, []}
use Rattle.std.specs.Prelude.{slice_index_or}
use Rattle.sac_base.specs.Grids.{has_vector}
use Rattle.array_with_loops.specs.Ranges.{moved_last}
use Rattle.loop_code.proofs.grids.part_at.Given as goal

abbrev pub invariant-loop-part : goal.invariant-loop-part
invariant-loop-part l = record {
  some : 1 ≤ l.count;
  most : l.count ≤ l.most;
  before : (i j : ℕ) → i < l.part → j < l.count → has_vector (slice_index_or l.parts i []) (moved_last j l.index) ≡ false;
}
