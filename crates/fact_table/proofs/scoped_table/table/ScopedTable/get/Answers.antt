use Rattle.std.proofs.Common.{◌∙◌}
use Rattle.fact_table.specs.scoped_table.Slots.{held, IsMade}
use Rattle.fact_table.proofs.scoped_table.NoteFacts.{found}
use Rattle.fact_table.proofs.scoped_table.table.ScopedTable.get.Goals as goal

pub returns : goal.returns
returns g c =
    let t = c.self.inside in
    c.get.ensures ∙ found (IsMade t.slots) (held t.slots) t.trail.items c.args.self.now c.self.invariant c.self.view_is c.args.x
