use Rattle.std.proofs.Common.{map}
use Rattle.core_ir.specs.View.{fun_term}
use Rattle.variable_bases.proofs.Groups.{PlacesSoFar}
use Rattle.variable_bases.proofs.signatures.group_signatures.Given as goal

abbrev pub invariant-loop-place : goal.invariant-loop-place
invariant-loop-place l = PlacesSoFar (map fun_term l.functions) l.places l.place-index l.signatures.items
