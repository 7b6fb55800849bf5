use Rattle.std.proofs.Common.{rules, ◌≡◌, ◌&&◌, true, sym, ◌∙◌}
use Rattle.sac_base.specs.Grids.{has_vector}
use Rattle.generator_sets.specs.Pieces.{lows}
use Rattle.fold_pieces.specs.Pieces.{vectors, is_held, HaveFirst}
use Rattle.fold_pieces.proofs.Searching.{have_held}
use Rattle.fold_pieces.proofs.keeping.kept_piece.Goals as goal

pub returns-in_ok-copy-in-Some-clause-some : goal.returns-in_ok-copy-in-Some-clause-some
returns-in_ok-copy-in-Some-clause-some c =
    let grids = c.args.grids.now in
    let at = vectors c.args.offsets.now in
    let v = lows c.args.piece.now in
    let have : HaveFirst grids v at c.in-Some.numbers.items = search rules in
    let here : has_vector c.args.grid.now v ≡ true = sym c.has_lows.ensures ∙ c.if-not-has_lows.false in
    (c.in_ok-copy-in-Some.ensures, (λ i. here i && is_held grids at v) ∙ have_held grids v at c.in-Some.numbers.items have, have)

pub returns-in-None-clause-none : goal.returns-in-None-clause-none
returns-in-None-clause-none c =
    let grids = c.args.grids.now in
    let at = vectors c.args.offsets.now in
    let v = lows c.args.piece.now in
    let here : has_vector c.args.grid.now v ≡ true = sym c.has_lows.ensures ∙ c.if-not-has_lows.false in
    let none : is_held grids at v ≡ Rattle.std.proofs.Common.false = search rules in
    (λ i. here i && none i)
