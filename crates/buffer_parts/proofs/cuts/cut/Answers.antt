use Rattle.std.proofs.Common.{◌≡◌, ℕ, suc, ◌+◌, ◌-◌, ◌*◌, ◌<◌, ◌≤◌, min, List, [], ◌∷◌, ◌++◌, length, map, sym, ap, ◌∙◌, subst, suc-mul, zero-mul, arith}
use lib.ListN.{length-drop, take-append-drop}
use lib.Seq.{length-take-le}
use Rattle.std.specs.Ptr.{ptr_add}
use Rattle.buffer_parts.specs.Spans.{Span, SideBySide, joined, lengths}
use Rattle.buffer_parts.proofs.Sides.{side_front, side_cut, joined_cut, lengths_cut, joined_before_empty}
use Rattle.buffer_parts.proofs.cuts.cut.Goals as goal

pub loop-preserved : goal.loop-preserved
loop-preserved g c =
    let R = g.row.T in let z : Span R.Denot = c.loop.rest in let f : Span R.Denot = c.split_at-front.result.0 in let b : Span R.Denot = c.split_at-front.result.1 in
    let xs : List (Span R.Denot) = c.loop.parts.items in let p = c.args.whole.start in let size : ℕ = c.args.size in let k : ℕ = c.min-at.result in let n : ℕ = length z.cells in
    let inv = c.loop.invariant in let more : c.loop.counter < c.args.count = omega arith in
    let at : k ≡ min size n = c.min-at.ensures ∙ ap (λ (m : ℕ). min size m) c.len.ensures in
    let short : k ≤ n = omega arith in
    let ef : length f.cells ≡ k = ap length c.split_at-front.ensures.front.1 ∙ length-take-le k z.cells short in
    let eb : length b.cells ≡ n - k = ap length c.split_at-front.ensures.back.1 ∙ length-drop k z.cells in
    let eb' : length b.cells ≡ n - size = omega arith in
    let items : c.push_reserved.new.self.items ≡ xs ++ f ∷ [] = c.push_reserved.ensures.items in
    let whole : f.cells ++ b.cells ≡ z.cells = (λ i. c.split_at-front.ensures.front.1 i ++ c.split_at-front.ensures.back.1 i) ∙ take-append-drop k z.cells in
    let next : b.start ≡ ptr_add R (length f.cells) z.start = c.split_at-front.ensures.back.0 ∙ ap (λ (m : ℕ). ptr_add R m z.start) (sym ef) in
    let left : c.args.count - c.loop.counter ≡ suc (c.args.count - (c.loop.counter + 1)) = omega arith in
    let rest : n ≤ suc (c.args.count - (c.loop.counter + 1)) * size = subst (λ (m : ℕ). n ≤ m * size) left inv.5 in
    let one = suc-mul (c.args.count - (c.loop.counter + 1)) size in (
      omega arith,
      c.push_reserved.ensures.capacity ∙ inv.1,
      subst (λ (l : List (Span R.Denot)). SideBySide R p (l ++ b ∷ [])) (sym items) (side_cut R f z b c.split_at-front.ensures.front.0 next p xs inv.2),
      ap (λ (l : List (Span R.Denot)). joined (l ++ b ∷ [])) items ∙ joined_cut f b z whole xs ∙ inv.3,
      ap (λ (l : List (Span R.Denot)). map (λ (q : Span R.Denot). length q.cells) l ++ lengths size (c.args.count - (c.loop.counter + 1)) (length b.cells)) items
          ∙ lengths_cut f b z size c.loop.counter c.args.count more (ef ∙ at) eb' xs ∙ inv.4,
      omega arith,
    )

pub returns-clause-side : goal.returns-clause-side
returns-clause-side g c = side_front g.row.T c.args.whole.start c.loop.parts.items (c.loop.rest ∷ []) c.loop.invariant.2

pub returns-clause-cells : goal.returns-clause-cells
returns-clause-cells g c =
    let done : c.loop.counter ≡ c.args.count = omega arith in
    let none : c.args.count - c.loop.counter ≡ 0 = omega arith in
    let few : length c.loop.rest.cells ≤ 0 * c.args.size = subst (λ (m : ℕ). length c.loop.rest.cells ≤ m * c.args.size) none c.loop.invariant.5 in
    let zero_size = zero-mul c.args.size in let nothing : length c.loop.rest.cells ≤ 0 = omega arith in
    sym (joined_before_empty c.loop.rest nothing c.loop.parts.items) ∙ c.loop.invariant.3
