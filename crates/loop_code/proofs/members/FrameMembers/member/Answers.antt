use Rattle.std.proofs.Common.{◌≡◌, ◌<◌, ◌≤◌, ◌+◌, ◌++◌, ◌∷◌, [], refl, ap, sym, ◌∙◌, subst, arith, rules, length, get_or, drop, pos, ◌+ℤ◌, FitsSigned, w32, w64, to_z, of_z}
use Rattle.std.proofs.lemmas.List.{length-map, get_or_read}
use Rattle.std.proofs.lemmas.Int.{to_z-of_z}
use Rattle.array_with_loops.specs.Frames.{added}
use Rattle.loop_code.specs.Offsets.{IsOffset}
use Rattle.loop_code.proofs.OffsetSteps.{offset_at, shifted_at, sum_fits, sum_last, sum_next}
use Rattle.loop_code.proofs.members.FrameMembers.member.Goals as goal

pub index-requires : goal.index-requires
index-requires c =
    let f = c.self.inside in
    subst (λ n. c.args.place < n) (ap length (sym c.self.view_is) ∙ length-map f.offsets (added f.low.items)) c.requires

pub loop-k-init : goal.loop-k-init
loop-k-init c = ap (λ xs. xs ++ added c.self.inside.low.items c.components-offset.result.now) c.clear.ensures.items

pub overflow_add-index : goal.overflow_add-index
overflow_add-index c =
    let f = c.self.inside in
    let k = c.loop-k.k in
    let v = c.components-offset.result.now in
    let inside : c.args.place < length f.offsets = subst (λ n. c.args.place < n) (ap length (sym c.self.view_is) ∙ length-map f.offsets (added f.low.items)) c.requires in
    let offset : IsOffset f.low.items c.components-offset.result.now = subst (IsOffset f.low.items) (sym (c.components-offset.ensures.value ∙ c.in_ok-index.ensures [])) (offset_at f.low.items f.offsets c.args.place c.self.invariant inside) in
    let kl : c.loop-k.k < length f.low.items = omega (arith, c.loop-k-test.true, c.len-k-end.ensures, f.low.ok.0) in
    let ko : c.loop-k.k < length c.components-offset.result.now = omega (arith, kl, offset.rank) in
    let fits : FitsSigned w64 c.index-in-loop-k.result.now = search rules in
    let word : FitsSigned w32 (get_or c.components-offset.result.now c.loop-k.k (pos 0)) = search rules in
    let low = to_z-of_z w64 c.index-in-loop-k.result.now fits ∙ get_or_read f.low.items k c.index-in-loop-k.result.now kl c.index-in-loop-k.ensures (pos 0) in
    let further = to_z-of_z w64 c.from.result (record { sfits = c.from.type_inv }) ∙ c.from.ensures ∙ to_z-of_z w32 (get_or v k (pos 0)) word in
    subst (FitsSigned w64) (sym (λ i. low i +ℤ further i)) (sum_fits f.low.items v k offset kl)

pub loop-k-preserved : goal.loop-k-preserved
loop-k-preserved c =
    let f = c.self.inside in
    let k = c.loop-k.k in
    let v = c.components-offset.result.now in
    let inside : c.args.place < length f.offsets = subst (λ n. c.args.place < n) (ap length (sym c.self.view_is) ∙ length-map f.offsets (added f.low.items)) c.requires in
    let offset : IsOffset f.low.items c.components-offset.result.now = subst (IsOffset f.low.items) (sym (c.components-offset.ensures.value ∙ c.in_ok-index.ensures [])) (offset_at f.low.items f.offsets c.args.place c.self.invariant inside) in
    let kl : c.loop-k.k < length f.low.items = omega (arith, c.loop-k-test.true, c.len-k-end.ensures, f.low.ok.0) in
    let ko : c.loop-k.k < length c.components-offset.result.now = omega (arith, kl, offset.rank) in
    let fits : FitsSigned w64 c.index-in-loop-k.result.now = search rules in
    let word : FitsSigned w32 (get_or c.components-offset.result.now c.loop-k.k (pos 0)) = search rules in
    let low = to_z-of_z w64 c.index-in-loop-k.result.now fits ∙ get_or_read f.low.items k c.index-in-loop-k.result.now kl c.index-in-loop-k.ensures (pos 0) in
    let further = to_z-of_z w64 c.from.result (record { sfits = c.from.type_inv }) ∙ c.from.ensures ∙ to_z-of_z w32 (get_or v k (pos 0)) word in
    let z = get_or f.low.items k (pos 0) +ℤ get_or v k (pos 0) in
    let kept = (λ i. to_z w64 (of_z w64 (low i +ℤ further i))) ∙ to_z-of_z w64 z (sum_fits f.low.items v k offset kl) in
    let items = c.in_ok-push.ensures.items ∙ ap (λ x. c.loop-k.into.items ++ x ∷ []) kept in
    subst (λ xs. xs ++ added (drop (k + 1) f.low.items) (drop (k + 1) v) ≡ added f.low.items v) (sym items)
    (sum_next f.low.items v c.loop-k.into.items (added f.low.items v) k z offset.rank kl refl c.loop-k.invariant)

pub returns : goal.returns
returns c =
    let f = c.self.inside in
    let p = c.args.place in
    let v = c.components-offset.result.now in
    let inside : c.args.place < length f.offsets = subst (λ n. c.args.place < n) (ap length (sym c.self.view_is) ∙ length-map f.offsets (added f.low.items)) c.requires in
    let past : length f.low.items ≤ c.loop-k.k = omega (arith, c.loop-k-test.false, c.len-k-end.ensures, f.low.ok.0) in
    sum_last f.low.items v c.loop-k.into.items (added f.low.items v) c.loop-k.k past c.loop-k.invariant
    ∙ ap (added f.low.items) (c.components-offset.ensures.value ∙ c.in_ok-index.ensures [])
    ∙ sym (shifted_at f.low.items f.offsets p inside)
    ∙ ap (λ xs. get_or xs p []) c.self.view_is
