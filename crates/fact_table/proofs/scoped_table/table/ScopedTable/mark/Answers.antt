use Rattle.std.proofs.Common.{rules, ◌≡◌, length, ◌∙◌}
use Rattle.fact_table.specs.scoped_table.Slots.{held}
use Rattle.fact_table.proofs.scoped_table.NoteFacts.{counted}
use Rattle.fact_table.proofs.scoped_table.table.ScopedTable.mark.Goals as goal

pub returns : goal.returns
returns g c =
    let t = c.self.inside in
    let long : c.len.result ≡ length t.trail.items = search rules in
    long ∙ counted (held t.slots) t.trail.items c.args.self.now c.self.view_is
