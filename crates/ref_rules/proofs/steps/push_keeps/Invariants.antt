use Rattle.std.proofs.Common.{◌≡◌, drop}
use Rattle.counted_code.specs.Terms.{CodeTerm}
use Rattle.counted_code.specs.View.{steps_before}
use Rattle.counted_laws.specs.placing.Placing.{keeps}
use Rattle.ref_rules.proofs.steps.push_keeps.Given as goal

abbrev pub invariant-loop-x : goal.invariant-loop-x
invariant-loop-x l = (t : CodeTerm) → steps_before l.steps.items (keeps (drop l.x-index l.vars) t) ≡ steps_before l.initial.steps.items (keeps l.vars t)
