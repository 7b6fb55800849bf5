use Rattle.std.proofs.Common.{◌≡◌, [], None, drop}
use Rattle.counted_code.specs.Terms.{Giving}
use Rattle.counted_code.specs.View.{steps_before}
use Rattle.counted_marks.specs.Marking.{least, released_next}
use Rattle.reuse_candidates.specs.Calls.{given_by}
use Rattle.reuse_candidates.specs.Chosen.{takes}
use Rattle.reuse_candidates.specs.Scopes.{known_in}
use Rattle.reuse_candidates.proofs.candidate.least_taken.Given as goal

abbrev pub invariant-loop-step : goal.invariant-loop-step
invariant-loop-step l = record {
  least :
      least (takes (given_by l.calls) (known_in l.fn.scope) l.maker) l.found (released_next (steps_before (drop l.step-index l.step-items) (Giving [])))
      ≡ least (takes (given_by l.calls) (known_in l.fn.scope) l.maker) None (released_next (steps_before l.step-items (Giving [])));
  same : l.scope ≡ l.fn.scope;
}
