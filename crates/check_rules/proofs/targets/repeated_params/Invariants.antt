use Rattle.std.proofs.Common.{◌≡◌, drop}
use Rattle.check_rules.specs.Accepted.{no_names}
use Rattle.check_rules.specs.First.{earlier}
use Rattle.check_rules.specs.Tables.{has}
use Rattle.check_rules.specs.Walk.{repeated_params}
use Rattle.check_rules.proofs.targets.repeated_params.Given as goal

abbrev pub invariant-loop-param : goal.invariant-loop-param
invariant-loop-param l = earlier l.first (repeated_params (has l.before) (drop l.param-index l.params)) ≡ repeated_params no_names l.params
