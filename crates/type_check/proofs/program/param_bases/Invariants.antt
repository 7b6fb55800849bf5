use Rattle.std.proofs.Common.{◌≡◌, ◌++◌, drop, map}
use Rattle.sac_ast.specs.declared.Param.{Param}
use Rattle.type_check.proofs.program.param_bases.Given as goal

abbrev pub invariant-loop-param : goal.invariant-loop-param
invariant-loop-param l = l.bases.items ++ map (λ (p : Param). p.ty.base) (drop l.param-index l.params) ≡ map (λ (p : Param). p.ty.base) l.params
