use Rattle.std.proofs.Common.{map, ap, ◌∙◌}
use Rattle.std.proofs.lemmas.List.{take_all}
use Rattle.core_loops.specs.Loops.{grid_range}
use Rattle.partable_loops.proofs.Boxes.{filled_axis, box_spanned}
use Rattle.partable_loops.proofs.Frames.{axes_more, one_longer, words_more}
use Rattle.partable_loops.proofs.grids.grid_of_box.Goals as goal

pub loop-axis-preserved : goal.loop-axis-preserved
loop-axis-preserved c =
    let items = c.axes-axis-items.result.now in
    record {
      made = axes_more c.loop-axis.axes.items c.push.new.self.items items c.loop-axis.axis-index c.without_gaps.result c.axis-item.result c.loop-axis-test.true c.axis-item.is c.loop-axis.invariant.made c.in_ok-push.ensures.items c.without_gaps.ensures.axis;
      long = one_longer c.loop-axis.axes.items c.push.new.self.items c.loop-axis.axis-index c.without_gaps.result c.loop-axis.invariant.long c.in_ok-push.ensures.items;
      words = words_more c.loop-axis.axes.items c.push.new.self.items c.without_gaps.result c.loop-axis.invariant.words c.in_ok-push.ensures.items c.without_gaps.ensures.word;
    }

pub returns-clause-spans : goal.returns-clause-spans
returns-clause-spans c =
    let items = c.axes-axis-items.result.now in
    ap grid_range c.new.ensures ∙ c.loop-axis.invariant.made
    ∙ ap (map filled_axis) (take_all c.loop-axis.axis-index items c.loop-axis-test.false ∙ c.axes-axis-items.ensures.value)
    ∙ box_spanned c.args.range.now c.requires.some
