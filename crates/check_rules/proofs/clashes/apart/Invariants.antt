use Rattle.std.proofs.Common.{◌≡◌, drop, map}
use Rattle.sac_ast.specs.declared.Param.{Param}
use Rattle.sac_base.specs.Types.{apart}
use Rattle.check_rules.proofs.clashes.apart.Given as goal

abbrev pub invariant-loop-k : goal.invariant-loop-k
invariant-loop-k l = apart (map (λ (p : Param). p.ty) (drop l.k l.a)) (map (λ (p : Param). p.ty) (drop l.k l.b)) ≡ apart (map (λ (p : Param). p.ty) l.a) (map (λ (p : Param). p.ty) l.b)
