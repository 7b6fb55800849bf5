use Rattle.std.proofs.Common.{◌≡◌, drop}
use Rattle.check_rules.specs.First.{earlier}
use Rattle.check_rules.specs.Tables.{entered}
use Rattle.check_rules.specs.Walk.{in_targets}
use Rattle.check_rules.proofs.targets.bind_targets.Given as goal

abbrev pub invariant-loop-k : goal.invariant-loop-k
invariant-loop-k l = record {
  first : earlier l.first (in_targets (drop l.k l.targets) (drop l.k l.bases) (entered l.known)).first ≡ (in_targets l.targets l.bases (entered l.initial.known)).first;
  known : (in_targets (drop l.k l.targets) (drop l.k l.bases) (entered l.known)).known ≡ (in_targets l.targets l.bases (entered l.initial.known)).known;
}
