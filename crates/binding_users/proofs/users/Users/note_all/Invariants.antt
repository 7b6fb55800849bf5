use Rattle.std.proofs.Common.{map}
use Rattle.core_ir.specs.View.{let_term}
use Rattle.binding_users.proofs.Noted.{CoversTo}
use Rattle.binding_users.proofs.users.Users.note_all.Given as goal

abbrev pub invariant-loop-place : goal.invariant-loop-place
invariant-loop-place l = CoversTo l.self.places (map let_term l.lets) l.place
