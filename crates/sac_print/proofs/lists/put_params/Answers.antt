use Rattle.sac_print.specs.Canonical.{param_texts}
use Rattle.sac_print.proofs.Printing.{commas_turn_at}
use Rattle.sac_print.proofs.lists.put_params.Goals as goal

pub loop-place-preserved : goal.loop-place-preserved
loop-place-preserved c = commas_turn_at param_texts c.args.params.now c.loop-place.place c.index-params-place.result c.index-params-place.is c.loop-place-test.true c.loop-place.invariant c.in_ok-put_comma.ensures.on_ok c.in_ok-put_param.ensures.on_ok
