use Rattle.std.proofs.Common.{◌≡◌, ◌≤◌, ap, sym, ◌∙◌, subst, IfOk, map}
use Rattle.std.specs.Prelude.{IfSome}
use Rattle.sac_base.specs.Arrays.{size, MOST}
use Rattle.sac_base.specs.WithLoops.{Range, box, box_size, span_of}
use Rattle.array_with_loops.proofs.GridSteps.{members_box, no_members, lows_bound, highs_bound, box_extents}
use Rattle.array_with_loops.proofs.JoinSteps.{fits_most}
use Rattle.array_with_loops.proofs.frames.Frame.of_grid.Goals as goal

pub returns-then-is_empty : goal.returns-then-is_empty
returns-then-is_empty c =
    subst (λ m. IfOk c.without_index.result (λ f. f ≡ m)) (sym (no_members c.args.grid.now (sym c.is_empty.ensures ∙ c.if-is_empty.true))) c.without_index.ensures

pub box_of-requires-clause-lower : goal.box_of-requires-clause-lower
box_of-requires-clause-lower c = lows_bound c.args.grid.now c.requires.dense c.requires.words (sym c.is_empty.ensures ∙ c.if-is_empty.false)

pub box_of-requires-clause-upper : goal.box_of-requires-clause-upper
box_of-requires-clause-upper c = highs_bound c.args.grid.now c.requires.dense c.requires.words (sym c.is_empty.ensures ∙ c.if-is_empty.false)

pub unwrap-requires : goal.unwrap-requires
unwrap-requires c =
    let g = c.args.grid.now in
    let same = ap (λ (r : Range). box_size (map span_of r)) c.in_ok-range.ensures.value ∙ ap size (box_extents g) in
    c.in_ok-frame.ensures.none ∙ sym (fits_most (box_size (map span_of c.in_ok-range.range)) (subst (λ n. n ≤ MOST) (sym same) c.requires.most))

pub returns : goal.returns
returns c =
    let g = c.args.grid.now in
    let whole = subst (λ o. IfSome o (λ f. f ≡ box (map span_of c.in_ok-range.range))) c.unwrap.ensures c.in_ok-frame.ensures.some in
    whole ∙ ap (λ (r : Range). box (map span_of r)) c.in_ok-range.ensures.value ∙ sym (members_box g c.requires.dense)
