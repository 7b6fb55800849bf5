use Rattle.std.proofs.Common.{◌≡◌, drop, map}
use Rattle.std.specs.Prelude.{max}
use Rattle.core_subst.specs.Names.{above_all}
use Rattle.dense_variables.proofs.pass.above_params.Given as goal

abbrev pub invariant-loop-var : goal.invariant-loop-var
invariant-loop-var l = max l.number (above_all (map (λ p. p.0) (drop l.var-index l.params))) ≡ above_all (map (λ p. p.0) l.params)
