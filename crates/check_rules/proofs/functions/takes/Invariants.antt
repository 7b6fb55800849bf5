use Rattle.std.proofs.Common.{◌≡◌, drop, map}
use Rattle.sac_ast.specs.declared.Param.{Param}
use Rattle.check_rules.specs.Groups.{has_each}
use Rattle.check_rules.proofs.functions.takes.Given as goal

abbrev pub invariant-loop-k : goal.invariant-loop-k
invariant-loop-k l =
    has_each (map (λ (p : Param). p.ty.base) (drop l.k l.params)) (drop l.k l.bases)
    ≡ has_each (map (λ (p : Param). p.ty.base) l.params) l.bases
