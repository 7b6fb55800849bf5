use Rattle.std.proofs.Common.{◌++◌, ap, ◌∙◌, Ok}
use Rattle.std.specs.Prelude.{map}
use Rattle.core_loops.specs.Pairs.{moved_back, all_moved_back}
use Rattle.fold_pieces.specs.Pieces.{vectors}
use Rattle.fold_pieces.proofs.Backward.{moved_turn, moved_end}
use Rattle.fold_pieces.proofs.moving.cutting_grids.Goals as goal

pub loop-offset-init : goal.loop-offset-init
loop-offset-init c = ap (λ l. l ++ all_moved_back (vectors c.args.offsets.now) c.args.grids.now) c.in_ok-all.ensures

pub loop-offset-preserved : goal.loop-offset-preserved
loop-offset-preserved c =
    moved_turn c.args.grids.now c.args.offsets.now c.loop-offset.offset-index c.offset-item.result c.loop-offset.all.items c.push_grids.new.all.items _ c.loop-offset-test.true
    c.offset-item.is
    (c.in_ok-push_grids.ensures.moved (ap Ok c.if-not-branch.false) ∙ ap (λ by. c.loop-offset.all.items ++ map (moved_back by) c.args.grids.now) c.deref.ensures.value)
    c.loop-offset.invariant

pub returns-clause-moved : goal.returns-clause-moved
returns-clause-moved c =
    moved_end c.args.grids.now c.args.offsets.now c.loop-offset.offset-index c.loop-offset.all.items _ c.loop-offset-test.false c.loop-offset.invariant
