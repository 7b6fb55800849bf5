use Rattle.std.proofs.Common.{ap, sym, subst, Ok}
use Rattle.std.specs.List.{All}
use Rattle.core_loops.specs.Pairs.{moved_back}
use Rattle.generator_sets.proofs.Growing.{grown_map, all_mapped}
use Rattle.fold_pieces.specs.Pieces.{IsNearAxis}
use Rattle.fold_pieces.proofs.moving.push_grids.Goals as goal

pub loop-grid-preserved : goal.loop-grid-preserved
loop-grid-preserved c =
    grown_map (moved_back c.args.by.now) c.args.grids.now _ c.loop-grid.all.items c.push_grid.new.all.items c.loop-grid.grid-index c.grid-item.result c.grid-item.is
    c.loop-grid-test.true (c.in_ok-push_grid.ensures.moved (ap Ok c.if-not-branch.false)) c.loop-grid.invariant

pub returns-then-not-branch-clause-far : goal.returns-then-not-branch-clause-far
returns-then-not-branch-clause-far c = λ e near.
    c.in_ok-push_grid.ensures.far (ap Ok c.if-not-branch.true)
    (subst (All IsNearAxis) (sym c.grid-item.is) (near c.loop-grid.grid-index c.grid-item.result c.loop-grid-test.true))

pub returns-clause-moved : goal.returns-clause-moved
returns-clause-moved c = λ e.
    all_mapped (moved_back c.args.by.now) c.args.grids.now _ c.loop-grid.all.items c.loop-grid.grid-index c.loop-grid-test.false c.loop-grid.invariant
