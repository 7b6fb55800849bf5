use Rattle.std.proofs.Common.{length}
use Rattle.run_eval.proofs.updates.+release_place.Given as goal

abbrev pub decreases-release_place : goal.decreases-release_place
decreases-release_place l = length l.steps.now
