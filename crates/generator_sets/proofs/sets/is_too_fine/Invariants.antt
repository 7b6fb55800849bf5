use Rattle.std.proofs.Common.{ℕ, ◌<◌, ◌≤◌, List, [], ◌∷◌, get_or}
use Rattle.grid_sets.specs.Segments.{IsTooFine}
use Rattle.generator_sets.specs.Pieces.{axis_grids}
use Rattle.generator_sets.specs.Counts.{CommonPeriods}
use Rattle.generator_sets.proofs.sets.is_too_fine.Given as goal

abbrev pub invariant-loop-k : goal.invariant-loop-k
invariant-loop-k l = record {
  fine : (periods : List ℕ) → CommonPeriods l.first l.second periods → (j : ℕ) → j < l.k → get_or periods j 0 ≤ 4096;
  coarse : (j : ℕ) → j < l.k → IsTooFine 9223372036854775807 (axis_grids j (l.first ∷ l.second ∷ [])) → ⊥;
}
