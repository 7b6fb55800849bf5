use Rattle.std.proofs.Common.{[], refl}
use Rattle.counted_code.specs.Terms.{Giving}
use Rattle.counted_code.specs.View.{steps_before}
use Rattle.reuse_candidates.specs.Calls.{given_by}
use Rattle.reuse_candidates.specs.Scopes.{known_in}
use Rattle.reuse_candidates.proofs.Choices.{no_choice}
use Rattle.reuse_candidates.proofs.candidate.choose.Goals as goal

pub returns-in_default : goal.returns-in_default
returns-in_default c = record {
  chosen = no_choice (given_by c.args.calls.now) (known_in c.args.scope.now) c.args.targets.now (steps_before c.args.later.now (Giving [])) c.args.right.now c.in_default.not-Parted;
  scope = refl;
}
