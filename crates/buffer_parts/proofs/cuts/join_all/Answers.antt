use Rattle.std.proofs.Common.{◌+◌, ◌^◌, List, [], ◌∷◌, ◌++◌, length, sym, ap, ◌∙◌, subst, arith}
use Rattle.core.proofs.ptr.Rows.{times_below}
use Rattle.std.specs.Mem.{type_size}
use Rattle.buffer_parts.specs.Spans.{Span, SideBySide, joined, start_of}
use Rattle.buffer_parts.proofs.Sides.{side_meets, side_merged, joined_cut, two_within}
use Rattle.buffer_parts.proofs.cuts.join_all.Goals as goal

pub join-whole-requires-clause-beside : goal.join-whole-requires-clause-beside
join-whole-requires-clause-beside g c =
    let R = g.row.T in let f = c.in-Some-pop.front in let z = c.loop-front.whole in let xs = c.pop-in-loop-front.new.self.items in
    let p = start_of c.args.parts.items in
    side_meets R f z p xs (subst (λ (l : List (Span R.Denot)). SideBySide R p (l ++ z ∷ [])) c.in-Some-pop.ensures.items c.loop-front.invariant.0)

pub join-whole-requires-clause-small : goal.join-whole-requires-clause-small
join-whole-requires-clause-small g c =
    let R = g.row.T in let f = c.in-Some-pop.front in let z = c.loop-front.whole in let xs = c.pop-in-loop-front.new.self.items in
    let all = ap (λ (l : List (Span R.Denot)). length (joined (l ++ z ∷ []))) (sym c.in-Some-pop.ensures.items) ∙ ap length c.loop-front.invariant.1 in
    let two = two_within f z xs in
    times_below (length f.cells + length z.cells) (length (joined c.args.parts.items)) (type_size R) (2 ^ 63) (omega arith) c.requires.small

pub join-whole-requires-clause-counted : goal.join-whole-requires-clause-counted
join-whole-requires-clause-counted g c =
    let R = g.row.T in let f = c.in-Some-pop.front in let z = c.loop-front.whole in let xs = c.pop-in-loop-front.new.self.items in
    let all = ap (λ (l : List (Span R.Denot)). length (joined (l ++ z ∷ []))) (sym c.in-Some-pop.ensures.items) ∙ ap length c.loop-front.invariant.1 in
    let two = two_within f z xs in let few = c.requires.counted in omega arith

pub loop-front-preserved : goal.loop-front-preserved
loop-front-preserved g c =
    let R = g.row.T in let f = c.in-Some-pop.front in let z = c.loop-front.whole in let w = c.join-whole.result in let xs = c.pop-in-loop-front.new.self.items in
    let p = start_of c.args.parts.items in (
      side_merged R f z w c.join-whole.ensures.0 p xs (subst (λ (l : List (Span R.Denot)). SideBySide R p (l ++ z ∷ [])) c.in-Some-pop.ensures.items c.loop-front.invariant.0),
      sym (joined_cut f z w (sym c.join-whole.ensures.1) xs) ∙ ap (λ (l : List (Span R.Denot)). joined (l ++ z ∷ [])) (sym c.in-Some-pop.ensures.items) ∙ c.loop-front.invariant.1,
    )
