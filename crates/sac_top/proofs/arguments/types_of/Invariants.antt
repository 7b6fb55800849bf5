use Rattle.std.proofs.Common.{◌≡◌, ◌++◌, drop, map}
use Rattle.sac_ast.specs.declared.Param.{Param}
use Rattle.sac_top.proofs.arguments.types_of.Given as goal

abbrev pub invariant-loop-param : goal.invariant-loop-param
invariant-loop-param l = l.types.items ++ map (λ (p : Param). p.ty) (drop l.param-index l.params) ≡ map (λ (p : Param). p.ty) l.params
