use Rattle.std.proofs.Common.{rules, pos, ℤ, subst}
use Rattle.std.specs.Fmt.{signed_decimal}
use Rattle.sac_print.specs.Texts.{one, Printed}
use Rattle.sac_print.proofs.Printing.{commas_turn}
use Rattle.sac_print.proofs.lists.put_extents.Goals as goal

pub loop-place-preserved : goal.loop-place-preserved
loop-place-preserved c = commas_turn (λ (n : ℤ). one (signed_decimal n)) c.args.extents.now c.loop-place.place (pos 0) c.loop-place-test.true c.loop-place.invariant c.in_ok-put_comma.ensures.on_ok
    (subst (λ (n : ℤ). Printed c.put_comma.new.out.items c.put_number.new.out.items (one (signed_decimal n))) (search rules) c.in_ok-put_number.ensures.on_ok)
