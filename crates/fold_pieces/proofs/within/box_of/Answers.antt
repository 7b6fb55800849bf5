use Rattle.std.proofs.Common.{ap, ◌∙◌}
use Rattle.std.proofs.lemmas.List.{take_all}
use Rattle.core_loops.specs.Loops.{grid_range}
use Rattle.core_loops.specs.Pairs.{box_range}
use Rattle.fold_pieces.proofs.within.box_of.Goals as goal

pub returns : goal.returns
returns c =
    let items = c.axes-axis-items.result.now in
    ap grid_range c.new.ensures ∙ c.loop-axis.invariant.made ∙ ap box_range (take_all c.loop-axis.axis-index items c.loop-axis-test.false ∙ c.axes-axis-items.ensures.axes)
