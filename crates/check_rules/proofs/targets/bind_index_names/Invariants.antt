use Rattle.std.proofs.Common.{◌≡◌, drop}
use Rattle.check_rules.specs.First.{earlier}
use Rattle.check_rules.specs.Tables.{entered}
use Rattle.check_rules.specs.Walk.{in_index_names}
use Rattle.check_rules.proofs.targets.bind_index_names.Given as goal

abbrev pub invariant-loop-target : goal.invariant-loop-target
invariant-loop-target l = record {
  first : earlier l.first (in_index_names (drop l.target-index l.targets) (entered l.known)).first ≡ (in_index_names l.targets (entered l.initial.known)).first;
  known : (in_index_names (drop l.target-index l.targets) (entered l.known)).known ≡ (in_index_names l.targets (entered l.initial.known)).known;
}
