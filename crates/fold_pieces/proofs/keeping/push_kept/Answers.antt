use Rattle.std.proofs.Common.{rules, ◌≡◌, ◌++◌, ◌∷◌, [], true, false, sym, subst}
use Rattle.std.specs.List.{All}
use Rattle.std.proofs.lemmas.List.Elements.{All-push}
use Rattle.generator_sets.specs.Pieces.{lows}
use Rattle.fold_pieces.specs.declared.keeping.FoldPiece.{FoldPiece}
use Rattle.fold_pieces.specs.Pieces.{vectors, is_kept, HaveFirst}
use Rattle.fold_pieces.proofs.Keepings.{Pushed, pushed, unpushed}
use Rattle.fold_pieces.proofs.keeping.push_kept.Goals as goal

pub returns-in_ok-push-in-Some-clause-grids : goal.returns-in_ok-push-in-Some-clause-grids
returns-in_ok-push-in-Some-clause-grids c =
    let k = is_kept c.args.grid.now c.args.grids.now (vectors c.args.offsets.now) in
    let p = c.in-Some.kept in
    let h : Pushed k c.args.piece.now p = search rules in
    let new : c.push.new.self.items ≡ c.args.found.now.items ++ p ∷ [] = search rules in
    pushed k c.args.found.now.items c.push.new.self.items p c.args.piece.now new h

pub returns-in_ok-push-in-Some-clause-holders : goal.returns-in_ok-push-in-Some-clause-holders
returns-in_ok-push-in-Some-clause-holders c =
    let P = λ (p : FoldPiece). HaveFirst c.args.grids.now (lows p.grid) (vectors c.args.offsets.now) p.holders.items in
    let p = c.in-Some.kept in
    let new : c.push.new.self.items ≡ c.args.found.now.items ++ p ∷ [] = search rules in
    let h : (p.grid ≡ c.args.piece.now) × (is_kept c.args.grid.now c.args.grids.now (vectors c.args.offsets.now) c.args.piece.now ≡ true)
    × HaveFirst c.args.grids.now (lows c.args.piece.now) (vectors c.args.offsets.now) p.holders.items = search rules in
    let here : HaveFirst c.args.grids.now (lows p.grid) (vectors c.args.offsets.now) p.holders.items = subst (λ g. HaveFirst c.args.grids.now (lows g) (vectors c.args.offsets.now) p.holders.items) (sym h.0) h.2 in
    λ all. subst (All P) (sym new) (All-push P c.args.found.now.items p all here)

pub returns-in-None-clause-grids : goal.returns-in-None-clause-grids
returns-in-None-clause-grids c =
    let k = is_kept c.args.grid.now c.args.grids.now (vectors c.args.offsets.now) in
    let none : k c.args.piece.now ≡ false = search rules in
    unpushed k c.args.found.now.items c.args.piece.now none
