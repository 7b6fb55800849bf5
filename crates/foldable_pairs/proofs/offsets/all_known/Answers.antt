use Rattle.std.proofs.Common.{ap, Ok}
use Rattle.fold_pieces.specs.Pieces.{vectors}
use Rattle.total_cells.specs.loop_selections.Told.{told}
use Rattle.foldable_pairs.proofs.Selecting.{somes, known_turn, known_end, known_none}
use Rattle.foldable_pairs.proofs.offsets.all_known.Goals as goal

pub loop-offset-preserved : goal.loop-offset-preserved
loop-offset-preserved c =
    known_turn c.args.found.now c.loop-offset.offset-index c.offset-item.result (somes (vectors c.loop-offset.known.items)) (somes (vectors c.push_known.new.known.items)) _
    c.loop-offset-test.true c.offset-item.is (c.in_ok-push_known.ensures.pushed (ap Ok c.if-not-branch.false)) c.loop-offset.invariant

pub returns-then-not-branch-clause-none : goal.returns-then-not-branch-clause-none
returns-then-not-branch-clause-none c =
    known_none c.args.found.now c.loop-offset.offset-index c.offset-item.result (somes (vectors c.loop-offset.known.items)) (told c.args.found.now)
    c.loop-offset-test.true c.offset-item.is (c.in_ok-push_known.ensures.none (ap Ok c.if-not-branch.true)) c.loop-offset.invariant

pub returns-clause-some : goal.returns-clause-some
returns-clause-some c =
    known_end c.args.found.now c.loop-offset.offset-index (somes (vectors c.loop-offset.known.items)) _ c.loop-offset-test.false c.loop-offset.invariant
