use Rattle.std.proofs.Common.{◌≡◌, ◌-◌, ◌+◌, ◌≤◌, length}
use Rattle.fact_table.specs.scoped_table.Slots.{held, KeepsMade}
use Rattle.fact_table.proofs.scoped_table.slots.Slots.reach_up.Given as goal

abbrev pub invariant-loop-self : goal.invariant-loop-self
invariant-loop-self g l = (held l.self ≡ held l.fn.self) × KeepsMade l.fn.self l.self × (l.self.first ≤ l.x.0)

abbrev pub decreases-loop-self : goal.decreases-loop-self
decreases-loop-self g l = l.x.0 + 1 - length l.self.made.items
