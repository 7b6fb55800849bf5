use Rattle.std.proofs.Common.{◌≡◌, drop, take, length}
use Rattle.check_rules.specs.Accepted.{with_names, target_names}
use Rattle.check_rules.specs.Tables.{among}
use Rattle.check_rules.proofs.targets.push_targets.Given as goal

abbrev pub invariant-loop-target : goal.invariant-loop-target
invariant-loop-target l = record {
  names : with_names (target_names (drop l.target-index l.targets)) (among l.bound.trail.items) ≡ with_names (target_names l.targets) (among l.initial.bound.trail.items);
  kept : take (length l.initial.bound.trail.items) l.bound.trail.items ≡ l.initial.bound.trail.items;
}
