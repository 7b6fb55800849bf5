use Rattle.fold_pieces.specs.Kept.{grids_in}
use Rattle.fold_pieces.specs.Pieces.{vectors, is_kept}
use Rattle.fold_pieces.proofs.Keepings.{keep_turn, keep_end}
use Rattle.fold_pieces.proofs.keeping.kept_pieces.Goals as goal

pub loop-piece-preserved : goal.loop-piece-preserved
loop-piece-preserved c = record {
  grids = keep_turn (is_kept c.args.grid.now c.args.grids.now (vectors c.args.offsets.now)) c.args.pieces.now c.loop-piece.piece-index c.piece-item.result
      (grids_in c.loop-piece.found.items) (grids_in c.push_kept.new.found.items) _ c.loop-piece-test.true c.piece-item.is c.in_ok-push_kept.ensures.grids c.loop-piece.invariant.grids;
  holders = c.in_ok-push_kept.ensures.holders c.loop-piece.invariant.holders;
}

pub returns-clause-grids : goal.returns-clause-grids
returns-clause-grids c =
    keep_end (is_kept c.args.grid.now c.args.grids.now (vectors c.args.offsets.now)) c.args.pieces.now c.loop-piece.piece-index (grids_in c.loop-piece.found.items) _
    c.loop-piece-test.false c.loop-piece.invariant.grids
