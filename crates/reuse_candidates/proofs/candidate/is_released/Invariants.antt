use Rattle.std.proofs.Common.{◌≡◌, [], drop}
use Rattle.counted_code.specs.Terms.{Giving}
use Rattle.counted_code.specs.View.{steps_before}
use Rattle.counted_laws.specs.mark_places.Places.{releases_next}
use Rattle.reuse_candidates.proofs.candidate.is_released.Given as goal

abbrev pub invariant-loop-step : goal.invariant-loop-step
invariant-loop-step l = releases_next l.x (steps_before (drop l.step-index l.steps) (Giving [])) ≡ releases_next l.x (steps_before l.steps (Giving []))
