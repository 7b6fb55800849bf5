use Rattle.std.proofs.Common.{◌+◌, ◌*◌, ◌<◌, length, drop, get_or, arith}
use Rattle.std.proofs.lemmas.List.{at_drop_more}
use Rattle.std.specs.Char.{digit_value}
use Rattle.std.specs.Str.Parse.{digits_value_after}
use Rattle.sac_lex.proofs.Decimal.{number_grows}
use Rattle.sac_phrases.proofs.leaf.number_value.Goals as goal

pub overflow_mul-value : goal.overflow_mul-value
overflow_mul-value c =
    let ds = c.args.digits.now in
    let i = c.loop-byte.byte-index in
    let grows = number_grows (drop (i + 1) ds) (c.loop-byte.value * 10 + digit_value (get_or ds i 0)) in
    let lt : i < length ds = omega arith in
    let step = at_drop_more (digits_value_after 10 c.loop-byte.value) ds i 0 lt in
    let same = c.loop-byte.invariant in
    let few = c.requires.small in
    omega arith

pub overflow_add-value : goal.overflow_add-value
overflow_add-value c =
    let ds = c.args.digits.now in
    let i = c.loop-byte.byte-index in
    let grows = number_grows (drop (i + 1) ds) (c.loop-byte.value * 10 + digit_value (get_or ds i 0)) in
    let lt : i < length ds = omega arith in
    let step = at_drop_more (digits_value_after 10 c.loop-byte.value) ds i 0 lt in
    let same = c.loop-byte.invariant in
    let few = c.requires.small in
    let value = c.digit_value.ensures.value in
    omega arith
