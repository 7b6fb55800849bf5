-- Stores as they are opened for a cell, and as they are left.
use Rattle.std.proofs.Common.{◌≡◌, ℕ, suc, ◌+◌, ◌%◌, ◌^◌, List, [], ◌∷◌, ◌++◌, Option, Some, None, refl, ap, ◌∙◌, sym, subst, slice_index_or, arith, append-nil}
use Rattle.std.specs.Prelude.{IsSomeAnd}
use Rattle.std.proofs.Math.Nat.{mod-add-mod}
use Rattle.buffer_heap.specs.Heaps.{Held, HeapValue, at}
use Rattle.counted_code.specs.Values as machine
use Rattle.counted_code.specs.Values.{Heap}
use Rattle.run_store.specs.Lents.{LentValue, holds_at}
use Rattle.run_store.specs.Stands.{StandsFor, Stands, with_more, raised, whole}
use Rattle.run_store.proofs.Wholes.{at_raised, lent_at, within_places}

-- a heap with the same at each place
same_stands : (h k : HeapValue) (m : Heap) → ((b : ℕ) → at k b ≡ at h b) → k.births ≡ h.births → k.taken ≡ m.taken % 2 ^ 64 → k.given ≡ m.given % 2 ^ 64 → k.reused ≡ m.reused % 2 ^ 64 → StandsFor h m → StandsFor k m
same_stands h k m same births taken given reused s = record {
  stored = λ b x is. s.stored b x (sym (same b) ∙ is);
  single = λ b c x y p q. s.single b c x y (sym (same b) ∙ p) (sym (same c) ∙ q);
  births = births ∙ s.births;
  taken = taken;
  given = given;
  reused = reused;
}

none_more : (o : Option Held) → with_more 0 o ≡ o
none_more None = refl
none_more (Some x) = let same : x.count + 0 ≡ x.count = omega arith in ap {B = Option Held} (λ n. Some (record x { count = n })) same

-- what the main thread begins with
pub main_stands : (h : HeapValue) (m : Heap) → StandsFor h m → Stands (record { own = h; lent = None }) m
main_stands h m stands = record { all = stands }

-- a heap without buffers behind another one
abbrev pub behind_heap : HeapValue → HeapValue
behind_heap h = record { places = []; births = h.births; taken = 0; given = 0; reused = 0 }

counter_is : (n k : ℕ) → n ≡ k % 2 ^ 64 → (n + 0) % 2 ^ 64 ≡ k % 2 ^ 64
counter_is n k is =
    let same : k + 0 ≡ k = omega arith in
    ap (λ i. (i + 0) % 2 ^ 64) is ∙ mod-add-mod k (2 ^ 64) 0 ∙ ap (λ i. i % 2 ^ 64) same

-- what a worker begins with stands for the same heap of the machine as the heap that lends
pub worker_stands : (l : LentValue) (m : Heap) → ((b : ℕ) → holds_at l b ≡ 0) → StandsFor l.heap m → Stands (record { own = behind_heap l.heap; lent = Some l }) m
worker_stands l m none stands = record {
  all = same_stands l.heap (whole (record { own = behind_heap l.heap; lent = Some l })) m there refl (counter_is l.heap.taken m.taken stands.taken) (counter_is l.heap.given m.given stands.given) (counter_is l.heap.reused m.reused stands.reused) stands;
}
  where
    there : (b : ℕ) → at (whole (record { own = behind_heap l.heap; lent = Some l })) b ≡ at l.heap b
    there b =
        ap (λ xs. slice_index_or xs b None) (append-nil (raised l.heap.places l.holds))
        ∙ at_raised l.heap.places l.holds b
        ∙ ap (λ n. with_more n (at l.heap b)) (none b)
        ∙ none_more (at l.heap b)

raised_same : (xs : List (Option Held)) (ns ms : List ℕ) → ((b : ℕ) → with_more (slice_index_or ns b 0) (slice_index_or xs b None) ≡ with_more (slice_index_or ms b 0) (slice_index_or xs b None)) → raised xs ns ≡ raised xs ms
raised_same [] ns ms same = refl
raised_same (x ∷ xs) [] [] same = refl
raised_same (x ∷ xs) [] (m ∷ ms) same = λ i. same 0 i ∷ raised_same xs [] ms (λ b. same (suc b)) i
raised_same (x ∷ xs) (n ∷ ns) [] same = λ i. same 0 i ∷ raised_same xs ns [] (λ b. same (suc b)) i
raised_same (x ∷ xs) (n ∷ ns) (m ∷ ms) same = λ i. same 0 i ∷ raised_same xs ns ms (λ b. same (suc b)) i

-- each buffer of the heap that lends has the references that it has there
abbrev pub AreAsLent : HeapValue → Heap → Type 0
AreAsLent h m = (b : ℕ) (x : Held) → at h b ≡ Some x → machine.count_of m x.born ≡ x.count

-- where the machine's buffers that are lent have no references of the seat, it has none, and each store without them stands for the same
pub left_stands : (own : HeapValue) (l k : LentValue) (m : Heap) → k.heap ≡ l.heap → ((b : ℕ) → holds_at k b ≡ 0) → AreAsLent l.heap m → Stands (record { own = own; lent = Some l }) m → Stands (record { own = own; lent = Some k }) m
left_stands own l k m same none lent stands =
    record { all = subst (λ h. StandsFor (whole (record { own = own; lent = Some (record { heap = h; seat = k.seat; holds = k.holds }) })) m) (sym same) (subst (λ h. StandsFor h m) now stands.all) }
  where
    held_none : (b : ℕ) (o : Option Held) → at l.heap b ≡ o → with_more (holds_at l b) o ≡ with_more (holds_at k b) o
    held_none b None is = refl
    held_none b (Some x) is =
        let live : IsSomeAnd (at l.heap b) (λ y. Unit {0}) = subst (λ o. IsSomeAnd o (λ y. Unit {0})) (sym is) tt in
        let within = within_places l.heap.places b (λ y. Unit {0}) live in
        let there : at (whole (record { own = own; lent = Some l })) b ≡ Some (record x { count = x.count + holds_at l b }) = lent_at own l b within ∙ ap (with_more (holds_at l b)) is in
        let stored = (stands.all.stored b (record x { count = x.count + holds_at l b }) there).0.0 in
        let as_lent = lent b x is in
        let zero_held : holds_at l b ≡ 0 = omega (arith, stored, as_lent) in
        ap (λ n. with_more n (Some x)) (zero_held ∙ sym (none b))

    now : whole (record { own = own; lent = Some l }) ≡ whole (record { own = own; lent = Some (record { heap = l.heap; seat = k.seat; holds = k.holds }) })
    now =
        ap {B = HeapValue} (λ (xs : List (Option Held)). record (whole (record { own = own; lent = Some l })) { places = xs ++ own.places })
        (raised_same l.heap.places l.holds k.holds (λ b. held_none b (at l.heap b) refl))
