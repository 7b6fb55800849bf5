use Rattle.std.proofs.Common.{sym, map}
use Rattle.sac_ast.specs.declared.Param.{Param}
use Rattle.check_rules.proofs.Clashing.{unlike_below, unlike_mapped}
use Rattle.check_rules.proofs.clashes.all_below.Goals as goal

pub returns-then-a-b : goal.returns-then-a-b
returns-then-a-b c =
    let a = c.args.a.now in
    let b = c.args.b.now in
    sym (unlike_below (map (λ (p : Param). p.ty) a) (map (λ (p : Param). p.ty) b) (unlike_mapped (λ (p : Param). p.ty) a b c.if-a-b.true))
