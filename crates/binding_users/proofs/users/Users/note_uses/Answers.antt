use Rattle.std.proofs.Common.{◌∙◌, subst}
use Rattle.core_ir.specs.View.{right_term}
use Rattle.core_ir.specs.Uses.{AvoidsAll}
use Rattle.core_subst.specs.Names.{used_in_right}
use Rattle.binding_users.proofs.Avoided.{right_avoids}
use Rattle.binding_users.proofs.Noted.{grows_on, uses_end, uses_turn}
use Rattle.binding_users.proofs.users.Users.note_uses.Goals as goal

pub loop-x-preserved : goal.loop-x-preserved
loop-x-preserved c =
    let v = c.loop-x.invariant in
    let old = c.loop-x.self.places in
    let new = c.note.new.places in
    record {
      grows = grows_on c.args.self.now.places old new v.grows c.in_ok-note.ensures.grows;
      noted = uses_turn old new c.deref-x-items.result.now c.loop-x.x-index _ c.args.place c.loop-x-test.true c.in_ok-note.ensures.grows c.in_ok-note.ensures.here v.noted;
      when = v.when;
    }

pub returns-clause-noted : goal.returns-clause-noted
returns-clause-noted c = λ x e.
    let right = right_term c.args.right.now in
    let whole = uses_end c.deref-x-items.result.now (used_in_right right) c.loop-x.x-index c.new-used.result.items c.loop-x-test.false (c.deref-x-items.ensures.value ∙ c.in_ok-add_right.ensures) c.new-used.ensures.items in
    right_avoids x right (subst (AvoidsAll x) whole (c.loop-x.invariant.noted x e))
