use Rattle.fact_table.specs.scoped_table.Slots.{held, IsMade}
use Rattle.fact_table.proofs.scoped_table.NoteFacts.{last_is_made, rests_undone}
use Rattle.fact_table.proofs.scoped_table.table.ScopedTable.undo_last.Goals as goal

pub put_back-requires : goal.put_back-requires
put_back-requires g c =
    let t = c.self.inside in
    last_is_made (IsMade t.slots) (held t.slots) t.trail.items c.pop.new.self.items c.in-Some.hidden c.in-Some.ensures.items c.self.invariant

pub invariant_of-self : goal.invariant_of-self
invariant_of-self g c =
    let t = c.self.inside in
    rests_undone (IsMade t.slots) (IsMade c.put_back.new.self) (held t.slots) (held c.put_back.new.self) t.trail.items c.pop.new.self.items c.in-Some.hidden
    c.in-Some.ensures.items c.put_back.ensures.noted c.put_back.ensures.kept c.self.invariant
