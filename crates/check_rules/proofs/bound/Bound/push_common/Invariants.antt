use Rattle.std.proofs.Common.{◌≡◌, drop, take, length}
use Rattle.sac_base.specs.declared.name.Name.{Name}
use Rattle.check_rules.specs.Tables.{among, has, with_common}
use Rattle.check_rules.proofs.bound.Bound.push_common.Given as goal

abbrev pub invariant-loop-name : goal.invariant-loop-name
invariant-loop-name l = record {
  names : (other : Name) → with_common (has l.first) (among (drop l.name-index l.name-items)) (among l.self.trail.items) other ≡ with_common (has l.first) (has l.second) (among l.initial.self.trail.items) other;
  kept : take (length l.initial.self.trail.items) l.self.trail.items ≡ l.initial.self.trail.items;
}
