use Rattle.std.proofs.Common.{◌≡◌, ◌++◌, drop}
use Rattle.sac_ast.specs.Bases.{bound_params}
use Rattle.sac_bases.proofs.bindings.bind_params.Given as goal

abbrev pub invariant-loop-param : goal.invariant-loop-param
invariant-loop-param l = l.known.all.items ++ bound_params (drop l.param-index l.params) ≡ l.initial.known.all.items ++ bound_params l.params
