use Rattle.std.proofs.Common.{◌≡◌, drop}
use Rattle.check_rules.specs.Accepted.{no_names}
use Rattle.check_rules.specs.First.{earlier}
use Rattle.check_rules.specs.Tables.{has}
use Rattle.check_rules.specs.Walk.{repeated_targets}
use Rattle.check_rules.proofs.targets.repeated_targets.Given as goal

abbrev pub invariant-loop-target : goal.invariant-loop-target
invariant-loop-target l = earlier l.first (repeated_targets (has l.before) (drop l.target-index l.targets)) ≡ repeated_targets no_names l.targets
