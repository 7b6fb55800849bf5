use Rattle.std.proofs.Common.{sym, map}
use Rattle.sac_ast.specs.declared.Param.{Param}
use Rattle.check_rules.proofs.Clashing.{unlike_bases, unlike_mapped}
use Rattle.check_rules.proofs.clashes.same_param_bases.Goals as goal

pub returns-then-a-b : goal.returns-then-a-b
returns-then-a-b c =
    let a = c.args.a.now in
    let b = c.args.b.now in
    sym (unlike_bases (map (λ (p : Param). p.ty.base) a) (map (λ (p : Param). p.ty.base) b) (unlike_mapped (λ (p : Param). p.ty.base) a b c.if-a-b.true))
