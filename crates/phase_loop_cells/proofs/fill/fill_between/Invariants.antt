use Rattle.std.proofs.Common.{◌≡◌, ℕ, ◌+◌, ◌<◌, pos, [], ◌∷◌}
use Rattle.std.specs.Prelude.{slice_index_or}
use Rattle.phase_loop_cells.specs.Cells.{stands_at}
use Rattle.phase_loop_cells.proofs.fill.fill_between.Given as goal

abbrev pub invariant-loop-j : goal.invariant-loop-j
invariant-loop-j l = (i : ℕ) → i < l.j → stands_at l.background.old l.background.cells.now l.background.size (l.start + i) ≡ slice_index_or l.into i (pos 0) ∷ []
