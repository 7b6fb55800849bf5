use Rattle.std.proofs.Common.{◌≡◌, map, take}
use Rattle.specialise.proofs.plan.param_types.Given as goal

abbrev pub invariant-loop-ty : goal.invariant-loop-ty
invariant-loop-ty l = l.types.items ≡ map (λ p. p.1) (take l.ty-index l.params)
