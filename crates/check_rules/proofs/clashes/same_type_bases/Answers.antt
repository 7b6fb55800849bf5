use Rattle.std.proofs.Common.{sym}
use Rattle.sac_base.specs.declared.types.ArrayType.{ArrayType}
use Rattle.check_rules.specs.Accepted.{base_list}
use Rattle.check_rules.proofs.Clashing.{unlike_bases, unlike_mapped}
use Rattle.check_rules.proofs.clashes.same_type_bases.Goals as goal

pub returns-then-a-b : goal.returns-then-a-b
returns-then-a-b c =
    let a = c.args.a.now in
    let b = c.args.b.now in
    sym (unlike_bases (base_list a) (base_list b) (unlike_mapped (λ (ty : ArrayType). ty.base) a b c.if-a-b.true))
