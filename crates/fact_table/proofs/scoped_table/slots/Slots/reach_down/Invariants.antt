use Rattle.std.proofs.Common.{◌≡◌}
use Rattle.fact_table.specs.scoped_table.Slots.{held, KeepsMade}
use Rattle.fact_table.proofs.scoped_table.slots.Slots.reach_down.Given as goal

abbrev pub invariant-loop-self : goal.invariant-loop-self
invariant-loop-self g l = (held l.self ≡ held l.fn.self) × KeepsMade l.fn.self l.self

abbrev pub decreases-loop-self : goal.decreases-loop-self
decreases-loop-self g l = l.self.first
