use Rattle.std.proofs.Common.{◌≡◌, false, sym, subst}
use Rattle.std.specs.Prelude.{nat_eq}
use Rattle.std.specs.HashMap.{get}
use Rattle.core_ir.specs.declared.tree.Let.{Let}
use Rattle.core_ir.specs.declared.tree.Var.{Var}
use Rattle.core_ir.specs.Uses.{AvoidsRight}
use Rattle.core_ir.specs.View.{right_term}
use Rattle.binding_users.specs.Users.{may_use}
use Rattle.binding_users.proofs.Noted.{covers_end, covers_turn}
use Rattle.binding_users.proofs.users.Users.note_all.Goals as goal

pub loop-place-preserved : goal.loop-place-preserved
loop-place-preserved c =
    let i = c.loop-place.place in
    let new = c.note_uses.new.self.places in
    let own = subst (λ (m : Let). (x : Var) → may_use (get nat_eq new x.0) i ≡ false → AvoidsRight x (right_term m.right)) (sym c.index-lets-place.is) c.in_ok-note_uses.ensures.noted in
    covers_turn c.loop-place.self.places new c.args.lets.now i c.index-lets-place.result c.loop-place-test.true c.index-lets-place.is c.in_ok-note_uses.ensures.grows own c.loop-place.invariant

pub returns : goal.returns
returns c = covers_end c.loop-place.self.places c.args.lets.now c.loop-place.place c.loop-place-test.false c.loop-place.invariant
