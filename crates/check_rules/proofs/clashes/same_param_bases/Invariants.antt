use Rattle.std.proofs.Common.{◌≡◌, drop, map}
use Rattle.sac_ast.specs.declared.Param.{Param}
use Rattle.sac_ast.specs.Bases.{same_bases}
use Rattle.check_rules.proofs.clashes.same_param_bases.Given as goal

abbrev pub invariant-loop-k : goal.invariant-loop-k
invariant-loop-k l = same_bases (map (λ (p : Param). p.ty.base) (drop l.k l.a)) (map (λ (p : Param). p.ty.base) (drop l.k l.b)) ≡ same_bases (map (λ (p : Param). p.ty.base) l.a) (map (λ (p : Param). p.ty.base) l.b)
