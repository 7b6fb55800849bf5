use Rattle.std.proofs.Common.{map}
use Rattle.core_ir.specs.View.{core_term}
use Rattle.variable_bases.proofs.Groups.{GroupsSoFar}
use Rattle.variable_bases.proofs.signatures.Signatures.of_core.Given as goal

abbrev pub invariant-loop-places : goal.invariant-loop-places
invariant-loop-places l = GroupsSoFar (core_term l.core).functions (map (λ g. g.items) l.places-items) l.places-index (map (λ g. g.items) l.groups.items)
