use Rattle.sac_print.specs.Canonical.{type_texts}
use Rattle.sac_print.proofs.Printing.{commas_turn_at}
use Rattle.sac_print.proofs.lists.put_types.Goals as goal

pub loop-place-preserved : goal.loop-place-preserved
loop-place-preserved c = commas_turn_at type_texts c.args.types.now c.loop-place.place c.index-types-place.result c.index-types-place.is c.loop-place-test.true c.loop-place.invariant c.in_ok-put_comma.ensures.on_ok c.in_ok-put_type.ensures.on_ok
