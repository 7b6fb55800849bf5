use Rattle.sac_print.specs.Canonical.{target_texts}
use Rattle.sac_print.proofs.Printing.{commas_turn_at, by_text}
use Rattle.sac_print.proofs.lists.put_targets.Goals as goal

pub loop-place-preserved : goal.loop-place-preserved
loop-place-preserved c = commas_turn_at target_texts c.args.targets.now c.loop-place.place c.index-targets-place.result c.index-targets-place.is c.loop-place-test.true c.loop-place.invariant c.in_ok-put_comma.ensures.on_ok (by_text c.as_str.ensures.bytes c.in_ok-put.ensures).on_ok
