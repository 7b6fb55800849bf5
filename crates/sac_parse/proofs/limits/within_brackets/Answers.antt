use Rattle.std.proofs.Common.{inl, inr, refl}
use Rattle.sac_parse.proofs.limits.within_brackets.Goals as goal

pub returns-in_default : goal.returns-in_default
returns-in_default c = inl (refl, c.in_default.ensures)

pub returns : goal.returns
returns c = inr (c.in-Some.i, c.split_at.ensures.front, c.in-Some.ensures)
