use Rattle.std.proofs.Common.{◌≡◌, map, take}
use Rattle.known_calls.proofs.calls.vars_of.Given as goal

abbrev pub invariant-loop-var : goal.invariant-loop-var
invariant-loop-var l = l.vars.items ≡ map (λ p. p.0) (take l.var-index l.params)
