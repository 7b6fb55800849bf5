use Rattle.std.proofs.Common.{◌≡◌, false, take}
use Rattle.std.specs.Prelude.{nat_eq}
use Rattle.std.specs.HashMap.{get}
use Rattle.core_ir.specs.declared.tree.Var.{Var}
use Rattle.core_ir.specs.Uses.{AvoidsAll}
use Rattle.binding_users.specs.Users.{may_use, Grows}
use Rattle.binding_users.proofs.users.Users.note_uses.Given as goal

abbrev pub invariant-loop-x : goal.invariant-loop-x
invariant-loop-x l = record {
  grows : Grows l.initial.self.places l.self.places;
  noted : (y : Var) → may_use (get nat_eq l.self.places y.0) l.place ≡ false → AvoidsAll y (take l.x-index l.x-items);
  when : l.self.are_noted ≡ l.initial.self.are_noted;
}
