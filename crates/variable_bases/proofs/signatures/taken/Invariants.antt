use Rattle.std.proofs.Common.{◌≡◌, take, map}
use Rattle.core_ir.specs.WellFormed.{bases}
use Rattle.variable_bases.proofs.signatures.taken.Given as goal

abbrev pub invariant-loop-ty : goal.invariant-loop-ty
invariant-loop-ty l = l.taken.items ≡ bases (map (λ p. p.1) (take l.ty-index l.params))
