-- The numbers of live buffers.
use Rattle.std.proofs.Common.{◌≡◌, ℕ, zero, suc, ◌+◌, ◌<◌, ◌≤◌, ◌⊎◌, List, [], ◌∷◌, ◌++◌, length, map, refl, ap, ◌∙◌, sym, subst, Option, Some, None, slice_index_or, slice_set, arith, inl, inr}
use Rattle.std.proofs.lemmas.List.{map-set}
use Rattle.buffer_heap.specs.declared.heap.Place.{Place}
use Rattle.buffer_heap.specs.declared.heap.Heap.TheInside.{Inside}
use Rattle.std.specs.Prelude.{IsSomeAnd}
use Rattle.buffer_heap.specs.Heaps.{Content, In, Held, HeapValue, at, count_of}
use Rattle.buffer_heap.specs.Places.{AreNumbered, held_of, held_as, content_unless}
use Rattle.buffer_heap.proofs.Places.{Shows, with_places, there, live_there}

abbrev numbers : Inside → List (Option Held)
numbers a = map held_of a.places.items

-- ---- a live buffer has a reference

abbrev IsThere : Option Held → Type 0
IsThere None = ⊥
IsThere (Some x) = Unit {0}

referred_as : (b n : ℕ) (c : Content) (x : Held) → held_as b n c ≡ Some x → 1 ≤ x.count
referred_as b zero c x is = elim (subst IsThere (sym is) tt) [ ]
referred_as b (suc n) c x is = subst (λ k. 1 ≤ k) (ap count_of is) (omega arith)

referred_in : (ps : List Place) (b : ℕ) (x : Held) → slice_index_or (map held_of ps) b None ≡ Some x → 1 ≤ x.count
referred_in [] b x is = referred_as 0 0 (In []) x is
referred_in (p ∷ ps) zero x is = referred_as p.born p.count (content_unless p.out_len p.cells.items) x is
referred_in (p ∷ ps) (suc b) x is = referred_in ps b x is

pub referred : (a : Inside) (h : HeapValue) → with_places a a.places.items ≡ h → (b : ℕ) (x : Held) → at h b ≡ Some x → 1 ≤ x.count
referred a h view b x is = referred_in a.places.items b x (ap (λ k. at k b) view ∙ is)

-- ---- numbers that stay

-- a later number is above all
pub later_numbered : (n k : ℕ) (os : List (Option Held)) → n ≤ k → AreNumbered n os → AreNumbered k os
later_numbered n k os le is = record { below = λ b x there. (let low = is.below b x there in omega (arith, le, low)); single = is.single }

-- what is there has the number of what was there before
pub same_numbered : (n : ℕ) (os ps : List (Option Held)) → ((b : ℕ) (y : Held) → slice_index_or ps b None ≡ Some y → (x : Held) × (slice_index_or os b None ≡ Some x) × (x.born ≡ y.born)) → AreNumbered n os → AreNumbered n ps
same_numbered n os ps before is = record {
  below = λ b y there. (let x = before b y there in subst (λ k. k < n) x.2 (is.below b x.0 x.1));
  single = λ b c y z p q same. (let x = before b y p in let w = before c z q in is.single b c x.0 w.0 x.1 w.1 (x.2 ∙ same ∙ sym w.2));
}

-- what stands at a place after one was set
at_set : (os : List (Option Held)) (b c : ℕ) (o : Option Held) (y : Held) → slice_index_or (slice_set os b o) c None ≡ Some y → ((c ≡ b) × (o ≡ Some y)) ⊎ (slice_index_or os c None ≡ Some y)
at_set [] b c o y is = inr is
at_set (p ∷ os) zero zero o y is = inl (refl, is)
at_set (p ∷ os) zero (suc c) o y is = inr is
at_set (p ∷ os) (suc b) zero o y is = inr is
at_set (p ∷ os) (suc b) (suc c) o y is = go (at_set os b c o y is)
  where
    go : ((c ≡ b) × (o ≡ Some y)) ⊎ (slice_index_or os c None ≡ Some y) → ((suc c ≡ suc b) × (o ≡ Some y)) ⊎ (slice_index_or os c None ≡ Some y)
    go (inl here) = inl (ap suc here.0, here.1)
    go (inr there) = inr there

some_born : (p : Place) (y : Held) → held_of p ≡ Some y → y.born ≡ p.born
some_born p y is = go p.count is
  where
    born_or : Option Held → ℕ
    born_or None = p.born
    born_or (Some x) = x.born

    go : (n : ℕ) → held_as p.born n (content_unless p.out_len p.cells.items) ≡ Some y → y.born ≡ p.born
    go zero is = sym (ap born_or is)
    go (suc n) is = sym (ap born_or is)

some_there : (o : Option Held) (M : Held → Type 0) → IsSomeAnd o M → (x : Held) × (o ≡ Some x)
some_there None M live = elim live [ ]
some_there (Some x) M live = (x, refl)

-- a live buffer's place has changed, but not its number
pub place_numbered : (a : Inside) (h : HeapValue) (b : ℕ) (p q : Place) (M : Held → Type 0) → Shows a h b p M → q.born ≡ p.born → AreNumbered a.births (numbers a) → AreNumbered a.births (map held_of (slice_set a.places.items b q))
place_numbered a h b p q M s same is =
    subst (AreNumbered a.births) (sym (map-set held_of a.places.items b q))
    (same_numbered a.births (numbers a) (slice_set (numbers a) b (held_of q)) (λ c y is. go c y (at_set (numbers a) b c (held_of q) y is)) is)
  where
    here : slice_index_or (numbers a) b None ≡ held_of p
    here = ap (λ k. at k b) s.view ∙ there a h b p M s

    before : (x : Held) × (held_of p ≡ Some x)
    before = some_there (held_of p) M (live_there a h b p M s)

    go : (c : ℕ) (y : Held) → ((c ≡ b) × (held_of q ≡ Some y)) ⊎ (slice_index_or (numbers a) c None ≡ Some y) → (x : Held) × (slice_index_or (numbers a) c None ≡ Some x) × (x.born ≡ y.born)
    go c y (inl at_b) = (before.0, ap (λ d. slice_index_or (numbers a) d None) at_b.0 ∙ here ∙ before.1, some_born p before.0 before.1 ∙ sym same ∙ sym (some_born q y at_b.1))
    go c y (inr other) = (y, other, refl)

-- ---- a new number

-- there is one buffer more, whose number is the next one
added_numbered : (n b : ℕ) (os ps : List (Option Held)) → ((c : ℕ) (y : Held) → slice_index_or ps c None ≡ Some y → ((c ≡ b) × (y.born ≡ n)) ⊎ (slice_index_or os c None ≡ Some y)) → AreNumbered n os → AreNumbered (n + 1) ps
added_numbered n b os ps found is = record { below = λ c y there. below c y (found c y there); single = λ c d y z p q same. single c d y z same (found c y p) (found d z q) }
  where
    below : (c : ℕ) (y : Held) → ((c ≡ b) × (y.born ≡ n)) ⊎ (slice_index_or os c None ≡ Some y) → y.born < n + 1
    below c y (inl here) = let new = here.1 in omega (arith, new)
    below c y (inr there) = let low = is.below c y there in omega (arith, low)

    single : (c d : ℕ) (y z : Held) → y.born ≡ z.born → ((c ≡ b) × (y.born ≡ n)) ⊎ (slice_index_or os c None ≡ Some y) → ((d ≡ b) × (z.born ≡ n)) ⊎ (slice_index_or os d None ≡ Some z) → c ≡ d
    single c d y z same (inl here) (inl also) = here.0 ∙ sym also.0
    single c d y z same (inl here) (inr there) = let low = is.below d z there in let new = here.1 in absurd (omega (arith, low, new, same))
    single c d y z same (inr there) (inl here) = let low = is.below c y there in let new = here.1 in absurd (omega (arith, low, new, same))
    single c d y z same (inr there) (inr also) = is.single c d y z there also same

-- at a place that had none
pub stored_numbered : (a : Inside) (b : ℕ) (q : Place) → q.born ≡ a.births → AreNumbered a.births (numbers a) → AreNumbered (a.births + 1) (map held_of (slice_set a.places.items b q))
stored_numbered a b q new is =
    subst (AreNumbered (a.births + 1)) (sym (map-set held_of a.places.items b q))
    (added_numbered a.births b (numbers a) (slice_set (numbers a) b (held_of q)) (λ c y there. go c y (at_set (numbers a) b c (held_of q) y there)) is)
  where
    go : (c : ℕ) (y : Held) → ((c ≡ b) × (held_of q ≡ Some y)) ⊎ (slice_index_or (numbers a) c None ≡ Some y) → ((c ≡ b) × (y.born ≡ a.births)) ⊎ (slice_index_or (numbers a) c None ≡ Some y)
    go c y (inl here) = inl (here.0, some_born q y here.1 ∙ new)
    go c y (inr there) = inr there

at_push : (ps : List Place) (q : Place) (c : ℕ) (y : Held) → slice_index_or (map held_of (ps ++ q ∷ [])) c None ≡ Some y → ((c ≡ length ps) × (held_of q ≡ Some y)) ⊎ (slice_index_or (map held_of ps) c None ≡ Some y)
at_push [] q zero y is = inl (refl, is)
at_push [] q (suc c) y is = inr is
at_push (p ∷ ps) q zero y is = inr is
at_push (p ∷ ps) q (suc c) y is = go (at_push ps q c y is)
  where
    go : ((c ≡ length ps) × (held_of q ≡ Some y)) ⊎ (slice_index_or (map held_of ps) c None ≡ Some y) → ((suc c ≡ suc (length ps)) × (held_of q ≡ Some y)) ⊎ (slice_index_or (map held_of ps) c None ≡ Some y)
    go (inl here) = inl (ap suc here.0, here.1)
    go (inr there) = inr there

-- behind all places
pub pushed_numbered : (a : Inside) (q : Place) → q.born ≡ a.births → AreNumbered a.births (numbers a) → AreNumbered (a.births + 1) (map held_of (a.places.items ++ q ∷ []))
pushed_numbered a q new is =
    added_numbered a.births (length a.places.items) (numbers a) (map held_of (a.places.items ++ q ∷ [])) (λ c y there. go c y (at_push a.places.items q c y there)) is
  where
    go : (c : ℕ) (y : Held) → ((c ≡ length a.places.items) × (held_of q ≡ Some y)) ⊎ (slice_index_or (numbers a) c None ≡ Some y) → ((c ≡ length a.places.items) × (y.born ≡ a.births)) ⊎ (slice_index_or (numbers a) c None ≡ Some y)
    go c y (inl here) = inl (here.0, some_born q y here.1 ∙ new)
    go c y (inr there) = inr there
