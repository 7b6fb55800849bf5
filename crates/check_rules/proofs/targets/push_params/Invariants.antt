use Rattle.std.proofs.Common.{◌≡◌, drop}
use Rattle.check_rules.specs.Accepted.{with_names, param_names}
use Rattle.check_rules.specs.Tables.{among}
use Rattle.check_rules.proofs.targets.push_params.Given as goal

abbrev pub invariant-loop-param : goal.invariant-loop-param
invariant-loop-param l = with_names (param_names (drop l.param-index l.params)) (among l.bound.trail.items) ≡ with_names (param_names l.params) (among l.initial.bound.trail.items)
