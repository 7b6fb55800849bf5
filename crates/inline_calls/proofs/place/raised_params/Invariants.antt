use Rattle.std.proofs.Common.{◌≡◌, map, take}
use Rattle.core_subst.specs.copy.Mapped.{raised_within}
use Rattle.inline_calls.proofs.place.raised_params.Given as goal

abbrev pub invariant-loop-var : goal.invariant-loop-var
invariant-loop-var l = l.vars.items ≡ map (λ p. raised_within l.by p.0) (take l.var-index l.params)
