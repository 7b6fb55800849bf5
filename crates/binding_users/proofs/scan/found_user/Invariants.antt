use Rattle.std.proofs.Common.{map, take}
use Rattle.core_ir.specs.View.{let_term}
use Rattle.binding_users.proofs.Found.{SoFar}
use Rattle.binding_users.proofs.scan.found_user.Given as goal

abbrev pub invariant-loop-place : goal.invariant-loop-place
invariant-loop-place l = SoFar l.x (map let_term (take l.place l.lets)) l.results l.found
