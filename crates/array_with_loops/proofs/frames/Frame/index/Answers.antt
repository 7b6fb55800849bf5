use Rattle.std.proofs.Common.{◌<◌, ◌≤◌, ◌+◌, ◌/◌, ◌%◌, ◌^◌, ap, sym, ◌∙◌, subst, arith, rules, length, get_or, pos, ◌+ℤ◌, ◌++◌, ◌∷◌, [], FitsSigned, w32}
use Rattle.std.proofs.lemmas.List.{length_push, get_or_read}
use Rattle.sac_base.specs.Arrays.{size}
use Rattle.sac_base.specs.Places.{vector_at}
use Rattle.array_with_loops.specs.Frames.{added, spans}
use Rattle.array_with_loops.proofs.FrameSteps.{Left, left_first, left_last, left_next, extent_read, extent_small, extent_some, weight_some, quotient_below, sum_fits, sum_kept, at_place, length-box, size_of_spans}
use Rattle.array_with_loops.proofs.frames.Frame.index.Goals as goal

pub loop-k-init : goal.loop-k-init
loop-k-init c =
    let f = c.self.inside in
    let inside : c.args.place < f.count = subst (λ n. c.args.place < n) (ap length (sym c.self.view_is) ∙ length-box (spans f.low.items f.extents) ∙ size_of_spans f.low.items f.extents c.self.invariant.ranks ∙ c.self.invariant.all) c.requires in
    record {
      left = subst (λ xs. Left f.low.items f.extents 0 f.count c.args.place xs (added f.low.items (vector_at f.extents c.args.place))) (sym c.clear.ensures.items) (left_first f.low.items f.extents c.args.place f.count c.self.invariant.all inside);
      count = ap length c.clear.ensures.items;
    }

pub overflow_cast-rest : goal.overflow_cast-rest
overflow_cast-rest c =
    let f = c.self.inside in
    let inside : c.args.place < f.count = subst (λ n. c.args.place < n) (ap length (sym c.self.view_is) ∙ length-box (spans f.low.items f.extents) ∙ size_of_spans f.low.items f.extents c.self.invariant.ranks ∙ c.self.invariant.all) c.requires in
    let small : c.args.place < 2 ^ 32 = omega (arith, c.self.invariant.most) in
    record { fits = small }

pub nonzero_div-weight : goal.nonzero_div-weight
nonzero_div-weight c =
    let f = c.self.inside in
    let kk : c.loop-k.k < length f.extents = omega (arith, c.loop-k-test.true, c.len-k-end.ensures, f.low.ok.0, c.self.invariant.ranks) in
    let a = extent_read f.extents c.extents-extents.result.now c.loop-k.k c.unsigned_abs-weight.result c.extents-extents.ensures.value c.extents-extents.ensures.shape.each kk c.unsigned_abs-weight.ensures.value in
    subst (λ x. 0 < x) (sym a) (extent_some f.low.items f.extents c.loop-k.k c.loop-k.weight c.loop-k.rest _ _ kk c.self.invariant.ranks c.loop-k.invariant.left)

pub nonzero_div-rest : goal.nonzero_div-rest
nonzero_div-rest c =
    let f = c.self.inside in
    let kk : c.loop-k.k < length f.extents = omega (arith, c.loop-k-test.true, c.len-k-end.ensures, f.low.ok.0, c.self.invariant.ranks) in
    let a = extent_read f.extents c.extents-extents.result.now c.loop-k.k c.unsigned_abs-weight.result c.extents-extents.ensures.value c.extents-extents.ensures.shape.each kk c.unsigned_abs-weight.ensures.value in
    subst (λ x. 0 < c.loop-k.weight / x) (sym a) (weight_some f.low.items f.extents c.loop-k.k c.loop-k.weight c.loop-k.rest _ _ kk c.self.invariant.ranks c.loop-k.invariant.left)

pub nonzero_rem-rest : goal.nonzero_rem-rest
nonzero_rem-rest c =
    let f = c.self.inside in
    let kk : c.loop-k.k < length f.extents = omega (arith, c.loop-k-test.true, c.len-k-end.ensures, f.low.ok.0, c.self.invariant.ranks) in
    let a = extent_read f.extents c.extents-extents.result.now c.loop-k.k c.unsigned_abs-weight.result c.extents-extents.ensures.value c.extents-extents.ensures.shape.each kk c.unsigned_abs-weight.ensures.value in
    subst (λ x. 0 < c.loop-k.weight / x) (sym a) (weight_some f.low.items f.extents c.loop-k.k c.loop-k.weight c.loop-k.rest _ _ kk c.self.invariant.ranks c.loop-k.invariant.left)

pub overflow_cast-rest-in-loop-k : goal.overflow_cast-rest-in-loop-k
overflow_cast-rest-in-loop-k c =
    let f = c.self.inside in
    let kk : c.loop-k.k < length f.extents = omega (arith, c.loop-k-test.true, c.len-k-end.ensures, f.low.ok.0, c.self.invariant.ranks) in
    let a = extent_read f.extents c.extents-extents.result.now c.loop-k.k c.unsigned_abs-weight.result c.extents-extents.ensures.value c.extents-extents.ensures.shape.each kk c.unsigned_abs-weight.ensures.value in
    let below = subst (λ x. c.loop-k.rest / (c.loop-k.weight / x) < get_or f.extents c.loop-k.k 0) (sym a) (quotient_below f.low.items f.extents c.loop-k.k c.loop-k.weight c.loop-k.rest _ _ kk c.self.invariant.ranks c.loop-k.invariant.left) in
    let small = extent_small f.extents c.loop-k.k c.extents-extents.ensures.shape.each kk in
    let all : c.loop-k.rest / (c.loop-k.weight / c.unsigned_abs-weight.result) < 2 ^ 31 = omega arith in
    record { sfits = all }

pub overflow_add-index : goal.overflow_add-index
overflow_add-index c =
    let f = c.self.inside in
    let kk : c.loop-k.k < length f.extents = omega (arith, c.loop-k-test.true, c.len-k-end.ensures, f.low.ok.0, c.self.invariant.ranks) in
    let kl : c.loop-k.k < length f.low.items = omega (arith, kk, c.self.invariant.ranks) in
    let a = extent_read f.extents c.extents-extents.result.now c.loop-k.k c.unsigned_abs-weight.result c.extents-extents.ensures.value c.extents-extents.ensures.shape.each kk c.unsigned_abs-weight.ensures.value in
    let below = subst (λ x. c.loop-k.rest / (c.loop-k.weight / x) < get_or f.extents c.loop-k.k 0) (sym a) (quotient_below f.low.items f.extents c.loop-k.k c.loop-k.weight c.loop-k.rest _ _ kk c.self.invariant.ranks c.loop-k.invariant.left) in
    let small = extent_small f.extents c.loop-k.k c.extents-extents.ensures.shape.each kk in
    let all : c.loop-k.rest / (c.loop-k.weight / c.unsigned_abs-weight.result) < 2 ^ 31 = omega arith in
    let read = get_or_read f.low.items c.loop-k.k c.index.result.now kl c.index.ensures (pos 0) in
    let fits : FitsSigned w32 c.index.result.now = search rules in
    let sum = sum_fits f.low.items f.extents c.loop-k.k (c.loop-k.rest / (c.loop-k.weight / c.unsigned_abs-weight.result)) (pos 0) c.self.invariant.fits kl c.self.invariant.ranks (subst (FitsSigned w32) read fits) below in
    subst (FitsSigned w32) (sym (sum_kept c.index.result.now (get_or f.low.items c.loop-k.k (pos 0)) _ fits read all sum).0) sum

pub loop-k-preserved : goal.loop-k-preserved
loop-k-preserved c =
    let f = c.self.inside in
    let kk : c.loop-k.k < length f.extents = omega (arith, c.loop-k-test.true, c.len-k-end.ensures, f.low.ok.0, c.self.invariant.ranks) in
    let kl : c.loop-k.k < length f.low.items = omega (arith, kk, c.self.invariant.ranks) in
    let a = extent_read f.extents c.extents-extents.result.now c.loop-k.k c.unsigned_abs-weight.result c.extents-extents.ensures.value c.extents-extents.ensures.shape.each kk c.unsigned_abs-weight.ensures.value in
    let goal' = added f.low.items (vector_at f.extents c.args.place) in
    let below = subst (λ x. c.loop-k.rest / (c.loop-k.weight / x) < get_or f.extents c.loop-k.k 0) (sym a) (quotient_below f.low.items f.extents c.loop-k.k c.loop-k.weight c.loop-k.rest _ _ kk c.self.invariant.ranks c.loop-k.invariant.left) in
    let small = extent_small f.extents c.loop-k.k c.extents-extents.ensures.shape.each kk in
    let all : c.loop-k.rest / (c.loop-k.weight / c.unsigned_abs-weight.result) < 2 ^ 31 = omega arith in
    let read = get_or_read f.low.items c.loop-k.k c.index.result.now kl c.index.ensures (pos 0) in
    let fits : FitsSigned w32 c.index.result.now = search rules in
    let sum = sum_fits f.low.items f.extents c.loop-k.k (c.loop-k.rest / (c.loop-k.weight / c.unsigned_abs-weight.result)) (pos 0) c.self.invariant.fits kl c.self.invariant.ranks (subst (FitsSigned w32) read fits) below in
    let kept = (sum_kept c.index.result.now (get_or f.low.items c.loop-k.k (pos 0)) (c.loop-k.rest / (c.loop-k.weight / c.unsigned_abs-weight.result)) fits read all sum).1 in
    let next = subst (λ x. Left f.low.items f.extents (c.loop-k.k + 1) (c.loop-k.weight / x) (c.loop-k.rest % (c.loop-k.weight / x)) (c.loop-k.into-inside.components.items ++ (get_or f.low.items c.loop-k.k (pos 0) +ℤ pos (c.loop-k.rest / (c.loop-k.weight / x))) ∷ []) goal') (sym a)
    (left_next f.low.items f.extents c.loop-k.k c.loop-k.weight c.loop-k.rest _ _ kk c.self.invariant.ranks c.loop-k.invariant.left) in
    let items = c.in_ok-push.ensures.items ∙ ap (λ z. c.loop-k.into-inside.components.items ++ z ∷ []) kept in
    record {
      left = subst (λ xs. Left f.low.items f.extents (c.loop-k.k + 1) (c.loop-k.weight / c.unsigned_abs-weight.result) (c.loop-k.rest % (c.loop-k.weight / c.unsigned_abs-weight.result)) xs goal') (sym items) next;
      count = ap length c.in_ok-push.ensures.items ∙ length_push c.loop-k.into-inside.components.items _ ∙ ap (λ n. n + 1) c.loop-k.invariant.count;
    }

pub returns : goal.returns
returns c = λ d.
    let f = c.self.inside in
    let past : length f.low.items ≤ c.loop-k.k = omega (arith, c.loop-k-test.false, c.len-k-end.ensures, f.low.ok.0) in
    let inside : c.args.place < size f.extents = subst (λ n. c.args.place < n) (ap length (sym c.self.view_is) ∙ length-box (spans f.low.items f.extents) ∙ size_of_spans f.low.items f.extents c.self.invariant.ranks) c.requires in
    left_last f.low.items f.extents c.loop-k.k c.loop-k.weight c.loop-k.rest _ _ past c.loop-k.invariant.left
    ∙ at_place f.low.items f.extents c.args.place d c.self.invariant.ranks inside
    ∙ ap (λ xs. get_or xs c.args.place d) c.self.view_is
