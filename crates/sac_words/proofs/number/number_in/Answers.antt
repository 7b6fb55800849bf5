use Rattle.std.proofs.Common.{inl, inr, rules, arith}
use Rattle.sac_words.proofs.Numbers.{plus_is_no_number, parsed, out_of_range, unparsed}
use Rattle.sac_words.proofs.number.number_in.Goals as goal

pub returns-then-starts_with-clause-exact : goal.returns-then-starts_with-clause-exact
returns-then-starts_with-clause-exact c = plus_is_no_number _ _ _ (search rules)

pub returns-in-Ok-clause-exact : goal.returns-in-Ok-clause-exact
returns-in-Ok-clause-exact c =
    let told = c.in-Ok.ensures.value.0 in
    parsed _ _ _ _ (search rules) told.0.0 told.1 c.if-least-number.true c.if-number-most.true

pub returns-in_default-clause-exact : goal.returns-in_default-clause-exact
returns-in_default-clause-exact c = out_of_range _ _ _ _ (search rules) c.in-Ok.ensures.value.0.1 (inr c.if-number-most.false)

pub returns-in_default-2-clause-exact : goal.returns-in_default-2-clause-exact
returns-in_default-2-clause-exact c = out_of_range _ _ _ _ (search rules) c.in-Ok.ensures.value.0.1 (inl c.if-least-number.false)

pub returns-in_default-3-clause-exact : goal.returns-in_default-3-clause-exact
returns-in_default-3-clause-exact c = unparsed _ _ _ (omega arith) (search rules) c.in_default.ensures.value.0
