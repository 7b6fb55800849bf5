use Rattle.std.proofs.Common.{w32, ap, ◌∙◌, Ok, Result, ℤ, rules, arith, to_z, of_z}
use Rattle.std.specs.Int.{int_wrapping_div}
use Rattle.std.proofs.lemmas.Int.{to_z-of_z}
use Rattle.sac_base.specs.declared.op.ZeroDivisor.{ZeroDivisor}
use Rattle.sac_base.proofs.Wrapping.{wrapping_div_is}
use Rattle.sac_base.proofs.op.quotient.Goals as goal

pub returns-else-b-eq0 : goal.returns-else-b-eq0
returns-else-b-eq0 c =
    let same = ap (λ x. int_wrapping_div w32 x (to_z w32 (of_z w32 c.args.b))) (to_z-of_z w32 c.args.a c.ranges.a) ∙ ap (int_wrapping_div w32 c.args.a) (to_z-of_z w32 c.args.b c.ranges.b) in
    let e = ap {B = Result ℤ ZeroDivisor} Ok (to_z-of_z w32 c.wrapping_div.result (search rules) ∙ c.wrapping_div.ensures ∙ same ∙ wrapping_div_is c.args.a c.args.b c.ranges.a) in
    grind (arith, e)
