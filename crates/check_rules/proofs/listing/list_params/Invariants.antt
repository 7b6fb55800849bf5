use Rattle.std.proofs.Common.{◌≡◌, drop}
use Rattle.check_rules.specs.Accepted.{with_names, param_names}
use Rattle.check_rules.specs.Tables.{has}
use Rattle.check_rules.proofs.listing.list_params.Given as goal

abbrev pub invariant-loop-param : goal.invariant-loop-param
invariant-loop-param l = with_names (param_names (drop l.param-index l.params)) (has l.names) ≡ with_names (param_names l.params) (has l.initial.names)
