use Rattle.std.proofs.Common.{◌≡◌, drop, map}
use Rattle.sac_ast.specs.declared.Param.{Param}
use Rattle.sac_base.specs.Types.{all_below}
use Rattle.check_rules.proofs.clashes.all_below.Given as goal

abbrev pub invariant-loop-k : goal.invariant-loop-k
invariant-loop-k l = all_below (map (λ (p : Param). p.ty) (drop l.k l.a)) (map (λ (p : Param). p.ty) (drop l.k l.b)) ≡ all_below (map (λ (p : Param). p.ty) l.a) (map (λ (p : Param). p.ty) l.b)
