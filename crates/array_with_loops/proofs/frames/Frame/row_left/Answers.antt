use Rattle.std.proofs.Common.{◌≡◌, ◌<◌, ◌≤◌, ◌+◌, ◌-◌, ◌%◌, ◌^◌, ap, sym, ◌∙◌, subst, arith, length, get_or}
use Rattle.std.proofs.lemmas.Nat.{mod_below}
use Rattle.sac_base.specs.Arrays.{size}
use Rattle.array_with_loops.specs.Frames.{spans}
use Rattle.array_with_loops.specs.Ranges.{moved_last}
use Rattle.array_with_loops.proofs.FrameSteps.{at_place, length-box, size_of_spans}
use Rattle.array_with_loops.proofs.RowSteps.{row_extent, row_known, row_some, row_inside, along_row}
use Rattle.array_with_loops.proofs.frames.Frame.row_left.Goals as goal

pub overflow_cast-result : goal.overflow_cast-result
overflow_cast-result c =
    let f = c.self.inside in
    let inside : c.args.place < size f.extents = subst (λ n. c.args.place < n) (ap length (sym c.self.view_is) ∙ length-box (spans f.low.items f.extents) ∙ size_of_spans f.low.items f.extents c.self.invariant.ranks) c.requires in
    let small : c.args.place < 2 ^ 32 = omega (arith, c.self.invariant.most, c.self.invariant.all) in
    record { fits = small }

pub nonzero_rem-result : goal.nonzero_rem-result
nonzero_rem-result c =
    let f = c.self.inside in
    let inside : c.args.place < size f.extents = subst (λ n. c.args.place < n) (ap length (sym c.self.view_is) ∙ length-box (spans f.low.items f.extents) ∙ size_of_spans f.low.items f.extents c.self.invariant.ranks) c.requires in
    let a = row_known f.low.items f.extents c.extents-extents.result.now f.count c.len-rank.result c.unsigned_abs-extent.result c.extents-extents.ensures.value c.extents-extents.ensures.shape.each c.self.invariant (omega (arith, c.len-rank.ensures, f.low.ok.0)) c.if-rank-eq0.false c.unsigned_abs-extent.ensures.value in
    subst (λ x. 0 < x) (sym a) (row_some f.extents c.args.place inside)

pub overflow_sub-result : goal.overflow_sub-result
overflow_sub-result c =
    let f = c.self.inside in
    let inside : c.args.place < size f.extents = subst (λ n. c.args.place < n) (ap length (sym c.self.view_is) ∙ length-box (spans f.low.items f.extents) ∙ size_of_spans f.low.items f.extents c.self.invariant.ranks) c.requires in
    let a = row_known f.low.items f.extents c.extents-extents.result.now f.count c.len-rank.result c.unsigned_abs-extent.result c.extents-extents.ensures.value c.extents-extents.ensures.shape.each c.self.invariant (omega (arith, c.len-rank.ensures, f.low.ok.0)) c.if-rank-eq0.false c.unsigned_abs-extent.ensures.value in
    let some = subst (λ x. 0 < x) (sym a) (row_some f.extents c.args.place inside) in
    omega (arith, mod_below c.args.place c.unsigned_abs-extent.result some)

pub returns-clause-some : goal.returns-clause-some
returns-clause-some c =
    let f = c.self.inside in
    let inside : c.args.place < size f.extents = subst (λ n. c.args.place < n) (ap length (sym c.self.view_is) ∙ length-box (spans f.low.items f.extents) ∙ size_of_spans f.low.items f.extents c.self.invariant.ranks) c.requires in
    let a = row_known f.low.items f.extents c.extents-extents.result.now f.count c.len-rank.result c.unsigned_abs-extent.result c.extents-extents.ensures.value c.extents-extents.ensures.shape.each c.self.invariant (omega (arith, c.len-rank.ensures, f.low.ok.0)) c.if-rank-eq0.false c.unsigned_abs-extent.ensures.value in
    let some = subst (λ x. 0 < x) (sym a) (row_some f.extents c.args.place inside) in
    omega (arith, mod_below c.args.place c.unsigned_abs-extent.result some)

pub returns-clause-inside : goal.returns-clause-inside
returns-clause-inside c =
    let f = c.self.inside in
    let inside : c.args.place < size f.extents = subst (λ n. c.args.place < n) (ap length (sym c.self.view_is) ∙ length-box (spans f.low.items f.extents) ∙ size_of_spans f.low.items f.extents c.self.invariant.ranks) c.requires in
    let a = row_known f.low.items f.extents c.extents-extents.result.now f.count c.len-rank.result c.unsigned_abs-extent.result c.extents-extents.ensures.value c.extents-extents.ensures.shape.each c.self.invariant (omega (arith, c.len-rank.ensures, f.low.ok.0)) c.if-rank-eq0.false c.unsigned_abs-extent.ensures.value in
    let x = row_extent f.extents in
    let some = row_some f.extents c.args.place inside in
    let last = row_inside f.extents c.args.place (x - c.args.place % x - 1) inside (omega (arith, mod_below c.args.place x some)) in
    let whole : length c.args.self.now ≡ size f.extents = ap length (sym c.self.view_is) ∙ length-box (spans f.low.items f.extents) ∙ size_of_spans f.low.items f.extents c.self.invariant.ranks in
    subst (λ y. c.args.place + (y - c.args.place % y) ≤ length c.args.self.now) (sym a) (omega (arith, last, whole, mod_below c.args.place x some))

pub returns-clause-along : goal.returns-clause-along
returns-clause-along c = λ j d e h.
    let f = c.self.inside in
    let inside : c.args.place < size f.extents = subst (λ n. c.args.place < n) (ap length (sym c.self.view_is) ∙ length-box (spans f.low.items f.extents) ∙ size_of_spans f.low.items f.extents c.self.invariant.ranks) c.requires in
    let a = row_known f.low.items f.extents c.extents-extents.result.now f.count c.len-rank.result c.unsigned_abs-extent.result c.extents-extents.ensures.value c.extents-extents.ensures.shape.each c.self.invariant (omega (arith, c.len-rank.ensures, f.low.ok.0)) c.if-rank-eq0.false c.unsigned_abs-extent.ensures.value in
    let near : j < row_extent f.extents - c.args.place % row_extent f.extents = subst (λ y. j < y - c.args.place % y) a h in
    let ranks = c.self.invariant.ranks in
    ap (λ xs. get_or xs (c.args.place + j) d) (sym c.self.view_is)
    ∙ sym (at_place f.low.items f.extents (c.args.place + j) d ranks (row_inside f.extents c.args.place j inside near))
    ∙ along_row f.low.items f.extents c.args.place j ranks inside near
    ∙ ap (moved_last j) (at_place f.low.items f.extents c.args.place e ranks inside ∙ ap (λ xs. get_or xs c.args.place e) c.self.view_is)
