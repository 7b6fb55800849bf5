use Rattle.std.proofs.Common.{◌≡◌, ◌+◌, drop, sym, ◌∙◌, subst, Some, None, length, get_or, arith, refl}
use Rattle.std.specs.Prelude.{slice_get}
use Rattle.std.specs.Vec.{vec_len}
use Rattle.std.proofs.lemmas.List.{drop_more}
use Rattle.std.proofs.lemmas.Option.{slice_get_past, slice_get_read}
use Rattle.phase_checks.proofs.Results.{first_found, next_found}
use Rattle.phase_checks.proofs.groups.count_results.Goals as goal

pub returns-in-Some-get : goal.returns-in-Some-get
returns-in-Some-get c =
    let fs = c.args.code.now.functions.items in
    let places = c.deref-place-items.result.now in
    let i = c.loop-place.place-index in
    let len_is : vec_len c.in-Some-get.function.now.results ≡ length c.in-Some-get.function.now.results.items = grind (arith, c.in-Some-get.function.now.results.ok) in
    c.len.ensures ∙ len_is ∙ sym (first_found fs (drop i places) (drop (i + 1) places) (get_or places i 0) c.in-Some-get.function.now (drop_more places i 0 c.loop-place-test.true) (subst (λ fs. slice_get fs (get_or places i 0) ≡ Some c.in-Some-get.function.now) c.deref-in-loop-place.ensures.value (slice_get_read c.deref-in-loop-place.result.now (length c.deref-in-loop-place.result.now) (get_or places i 0) c.in-Some-get.function.now refl c.in-Some-get.ensures.lookup.3.0 c.in-Some-get.ensures.lookup.1))) ∙ c.loop-place.invariant

pub loop-place-preserved : goal.loop-place-preserved
loop-place-preserved c =
    let fs = c.args.code.now.functions.items in
    let places = c.deref-place-items.result.now in
    let i = c.loop-place.place-index in
    sym (next_found fs (drop i places) (drop (i + 1) places) (get_or places i 0) (drop_more places i 0 c.loop-place-test.true) (subst (λ fs. slice_get fs (get_or places i 0) ≡ None) c.deref-in-loop-place.ensures.value (slice_get_past c.deref-in-loop-place.result.now (get_or places i 0) c.in_default-get.ensures.lookup.3))) ∙ c.loop-place.invariant
