use Rattle.std.proofs.Common.{◌≡◌, take}
use Rattle.core_ir.specs.WellFormed.{bases}
use Rattle.variable_bases.proofs.signatures.given.Given as goal

abbrev pub invariant-loop-ty : goal.invariant-loop-ty
invariant-loop-ty l = l.given.items ≡ bases (take l.ty-index l.types)
