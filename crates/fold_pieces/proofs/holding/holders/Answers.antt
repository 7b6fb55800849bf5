use Rattle.std.proofs.Common.{rules, ◌≡◌, ◌++◌, ◌∷◌, [], sym, subst, false}
use Rattle.std.specs.List.{list_any}
use Rattle.sac_base.specs.Grids.{has_vector}
use Rattle.generator_sets.specs.Pieces.{lows, moved}
use Rattle.fold_pieces.specs.Pieces.{vectors, HasFirst}
use Rattle.fold_pieces.proofs.Searching.{SoFar, so_start, so_more, so_none, so_end}
use Rattle.fold_pieces.proofs.holding.holders.Goals as goal

pub loop-offset-init : goal.loop-offset-init
loop-offset-init c =
    let at = vectors c.args.offsets.now in
    let v = lows c.args.piece.now in
    subst (SoFar c.args.grids.now v at at) (sym c.new-found.ensures.items) (so_start c.args.grids.now v at)

pub loop-offset-preserved : goal.loop-offset-preserved
loop-offset-preserved c =
    let j = c.in-Some.j in
    let js = c.loop-offset.found.items in
    let v = lows c.args.piece.now in
    let new : c.push.new.self.items ≡ js ++ j ∷ [] = search rules in
    so_more c.args.grids.now v c.args.offsets.now c.loop-offset.offset-index c.offset-item.result js c.loop-offset-test.true c.offset-item.is c.loop-offset.invariant
    j c.push.new.self.items (subst (λ by. HasFirst c.args.grids.now (moved v by) j) c.deref.ensures.value c.in-Some.ensures.some) new

pub returns-in-None-clause-none : goal.returns-in-None-clause-none
returns-in-None-clause-none c =
    let v = lows c.args.piece.now in
    so_none c.args.grids.now v c.args.offsets.now c.loop-offset.offset-index c.offset-item.result c.loop-offset.found.items c.loop-offset-test.true c.offset-item.is
    c.loop-offset.invariant (subst (λ by. list_any (λ g. has_vector g (moved v by)) c.args.grids.now ≡ false) c.deref.ensures.value c.in-None.ensures.none)

pub returns-clause-some : goal.returns-clause-some
returns-clause-some c =
    so_end c.args.grids.now (lows c.args.piece.now) c.args.offsets.now c.loop-offset.offset-index c.loop-offset.found.items c.loop-offset-test.false c.loop-offset.invariant
