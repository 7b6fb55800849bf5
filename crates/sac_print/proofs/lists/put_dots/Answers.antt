use Rattle.std.proofs.Common.{codes}
use Rattle.sac_print.specs.Texts.{one}
use Rattle.sac_print.proofs.Printing.{dots_turn}
use Rattle.sac_print.proofs.lists.put_dots.Goals as goal

pub loop-place-preserved : goal.loop-place-preserved
loop-place-preserved c = dots_turn c.loop-place.place (one (codes ".")) c.loop-place.invariant c.in_ok-put_comma.ensures.on_ok c.in_ok-put.ensures.on_ok
