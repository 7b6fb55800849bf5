use Rattle.std.proofs.Common.{ap, ◌∙◌}
use Rattle.fact_table.specs.scoped_table.Slots.{held, with_entry}
use Rattle.fact_table.proofs.scoped_table.SlotFacts.{put}
use Rattle.fact_table.proofs.scoped_table.slots.Slots.exchange.Goals as goal

pub returns-clause-noted : goal.returns-clause-noted
returns-clause-noted g c =
    let s = c.args.self.now in
    put s.first s.made.items c.args.x c.replace.new.dest c.requires.0 c.requires.1 ∙ ap (with_entry (held s) c.args.x) c.replace.ensures.after
