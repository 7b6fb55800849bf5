use Rattle.foldable_pairs.proofs.Planning.{grids_turn, grids_end}
use Rattle.foldable_pairs.proofs.plan.grids_of_parts.Goals as goal

pub loop-part-preserved : goal.loop-part-preserved
loop-part-preserved c =
    grids_turn c.args.parts.now c.loop-part.part-index c.part-item.result c.loop-part.grids.items c.push_grid.new.grids.items _ c.loop-part-test.true c.part-item.is
    c.in_ok-push_grid.ensures c.loop-part.invariant

pub returns : goal.returns
returns c = grids_end c.args.parts.now c.loop-part.part-index c.loop-part.grids.items _ c.loop-part-test.false c.loop-part.invariant
