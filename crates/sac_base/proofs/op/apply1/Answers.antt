use Rattle.std.proofs.Common.{w32, ap, ◌∙◌, rules}
use Rattle.std.specs.Int.{int_wrapping_neg}
use Rattle.std.proofs.lemmas.Int.{wrapping_neg_is, to_z-of_z}
use Rattle.sac_base.proofs.op.apply1.Goals as goal

pub returns-in-Neg : goal.returns-in-Neg
returns-in-Neg c = rw c.in-Neg.is (to_z-of_z w32 _ (search rules) ∙ c.wrapping_neg.ensures ∙ ap (int_wrapping_neg w32) (to_z-of_z w32 c.args.a c.ranges.a) ∙ wrapping_neg_is w32 _ c.ranges.a)
