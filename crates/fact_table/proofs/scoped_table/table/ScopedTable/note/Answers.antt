use Rattle.std.proofs.Common.{Some, refl, ap, ◌∙◌}
use Rattle.fact_table.specs.scoped_table.Slots.{held, with_entry, IsMade}
use Rattle.fact_table.proofs.scoped_table.NoteFacts.{back, learned, rests_learned, rests_kept, kept}
use Rattle.fact_table.proofs.scoped_table.table.ScopedTable.note.Goals as goal

pub invariant_of-self : goal.invariant_of-self
invariant_of-self g c =
    let t = c.self.inside in
    let after = c.reach.new.self in
    rests_kept (IsMade t.slots) (IsMade after) (held t.slots) (held after) t.trail.items t.trail.items
    c.reach.ensures.same refl c.reach.ensures.kept c.self.invariant

pub invariant_of-self-in-Ok : goal.invariant_of-self-in-Ok
invariant_of-self-in-Ok g c =
    let t = c.self.inside in
    let reached = c.reach.new.self in
    let now = c.exchange-entry.new.self in
    rests_learned (held t.slots) (held reached) (held now) c.args.x (Some c.args.value) c.exchange-entry.result
    c.reach.ensures.same c.exchange-entry.ensures.noted c.exchange-entry.ensures.hidden
    (IsMade t.slots) (IsMade now) c.push.new.self.items t.trail.items c.in-Ok.ensures.items
    (λ y is. c.exchange-entry.ensures.kept y (c.reach.ensures.kept y is)) (c.exchange-entry.ensures.kept c.args.x c.in_ok-reach.ensures.made) c.self.invariant

pub invariant_of-self-in-Err : goal.invariant_of-self-in-Err
invariant_of-self-in-Err g c =
    let t = c.self.inside in
    let reached = c.reach.new.self in
    let now = c.exchange-entry.new.self in
    let again = c.put_back.new.self in
    let put = c.put_back.ensures.noted ∙ ap (λ h. with_entry (held now) c.args.x h.entry) c.in-Err.ensures.value_returned in
    rests_kept (IsMade t.slots) (IsMade again) (held t.slots) (held again) c.push.new.self.items t.trail.items
    (back (held t.slots) (held reached) (held now) c.args.x (Some c.args.value) c.exchange-entry.result
    c.reach.ensures.same c.exchange-entry.ensures.noted c.exchange-entry.ensures.hidden (held again) put)
    c.in-Err.ensures.items (λ y is. c.put_back.ensures.kept y (c.exchange-entry.ensures.kept y (c.reach.ensures.kept y is))) c.self.invariant

pub returns-in-Ok-clause-noted : goal.returns-in-Ok-clause-noted
returns-in-Ok-clause-noted g c =
    let t = c.self.inside in
    learned (held t.slots) (held c.reach.new.self) (held c.exchange-entry.new.self)
    c.args.x (Some c.args.value) c.exchange-entry.result
    c.reach.ensures.same c.exchange-entry.ensures.noted c.exchange-entry.ensures.hidden
    c.push.new.self.items t.trail.items c.args.self.now c.in-Ok.ensures.items c.self.view_is

pub returns-in-Err-clause-unchanged : goal.returns-in-Err-clause-unchanged
returns-in-Err-clause-unchanged g c =
    let t = c.self.inside in
    let now = c.exchange-entry.new.self in
    let again = c.put_back.new.self in
    let put = c.put_back.ensures.noted ∙ ap (λ h. with_entry (held now) c.args.x h.entry) c.in-Err.ensures.value_returned in
    kept (held t.slots) (held again) c.push.new.self.items t.trail.items c.args.self.now
    (back (held t.slots) (held c.reach.new.self) (held now) c.args.x (Some c.args.value) c.exchange-entry.result
    c.reach.ensures.same c.exchange-entry.ensures.noted c.exchange-entry.ensures.hidden (held again) put)
    c.in-Err.ensures.items c.self.view_is

pub put_back-requires : goal.put_back-requires
put_back-requires g c = c.exchange-entry.ensures.kept c.args.x c.in_ok-reach.ensures.made
