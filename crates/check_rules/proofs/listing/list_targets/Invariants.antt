use Rattle.std.proofs.Common.{◌≡◌, drop}
use Rattle.check_rules.specs.Accepted.{with_names, target_names}
use Rattle.check_rules.specs.Tables.{has}
use Rattle.check_rules.proofs.listing.list_targets.Given as goal

abbrev pub invariant-loop-target : goal.invariant-loop-target
invariant-loop-target l = with_names (target_names (drop l.target-index l.targets)) (has l.names) ≡ with_names (target_names l.targets) (has l.initial.names)
