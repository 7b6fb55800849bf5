use Rattle.std.proofs.Common.{◌≡◌, drop}
use Rattle.check_rules.specs.Accepted.{known_params}
use Rattle.check_rules.specs.Tables.{entered}
use Rattle.check_rules.proofs.targets.bind_params.Given as goal

abbrev pub invariant-loop-param : goal.invariant-loop-param
invariant-loop-param l = known_params (drop l.param-index l.params) (entered l.known) ≡ known_params l.params (entered l.initial.known)
