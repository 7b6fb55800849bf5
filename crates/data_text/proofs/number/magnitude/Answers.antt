use Rattle.std.proofs.Common.{rules, arith, ◌≡◌, ◌<◌, ◌+◌, ◌*◌, ◌-◌, ◌∙◌, sym, length, get_or}
use Rattle.std.specs.Prelude.{min}
use Rattle.data_text.proofs.NumberFacts.{digit_more}
use Rattle.data_text.proofs.number.magnitude.Goals as goal

pub loop-digit-preserved : goal.loop-digit-preserved
loop-digit-preserved c =
    let here : c.loop-digit.digit-index < length c.args.digits.now = search rules in
    let value : c.min-value.result ≡ min 4294967296 (10 * c.loop-digit.value + (get_or c.args.digits.now c.loop-digit.digit-index 0 - 48)) = omega (arith, c.min-value.ensures, c.from.ensures) in (
      digit_more c.loop-digit.value c.loop-digit.digit-index c.min-value.result c.args.digits.now here (sym c.is_ascii_digit.ensures.value ∙ c.if-not-is_ascii_digit.false) value ∙ c.loop-digit.invariant.0,
      omega (arith, c.min-value.ensures),
    )
