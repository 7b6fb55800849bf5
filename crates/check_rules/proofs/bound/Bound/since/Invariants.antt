use Rattle.std.proofs.Common.{◌≡◌, ◌||◌, drop}
use Rattle.sac_base.specs.declared.name.Name.{Name}
use Rattle.check_rules.specs.Tables.{among, has}
use Rattle.check_rules.proofs.bound.Bound.since.Given as goal

abbrev pub invariant-loop-k : goal.invariant-loop-k
invariant-loop-k l = (other : Name) → (has l.names other || among (drop l.k l.self.trail.items) other) ≡ among (drop l.mark l.self.trail.items) other
