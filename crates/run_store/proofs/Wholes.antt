-- The buffers of a store as those of one heap, after one step of the store.
use Rattle.std.proofs.Common.{◌≡◌, ◌≢◌, ℕ, zero, suc, ◌+◌, ◌-◌, ◌<◌, ◌≤◌, ◌%◌, ◌^◌, List, [], ◌∷◌, ◌++◌, length, ℤ, Option, Some, None, Result, Ok, Err, refl, ap, ◌∙◌, sym, subst, slice_index_or, slice_set, arith}
use Rattle.std.specs.Prelude.{IsSomeAnd, OnOk}
use Rattle.std.proofs.Math.Nat.{add-mod-mod, mod-add-mod}
use Rattle.buffer_heap.specs.Heaps.{Content, In, Out, Held, HeapValue, at, IsLive, IsNamed, HasRoom, IsLifted, len_of, with_place, with_count, with_content, count_of, content_of, lifted, released, released_at}
use Rattle.counted_code.specs.Values as machine
use Rattle.counted_code.specs.Values.{Heap, take_buffer, release_count}
use Rattle.run_store.specs.Lents.{LentValue, held_once_more, held_once_less, holds_at}
use Rattle.run_store.specs.Stands.{HasContent, StandsFor, Stands, with_more, raised, lent_places, with_lent, whole}
use Rattle.run_store.specs.declared.store.Store.{Store}
use Rattle.run_store.proofs.Changes.{some_there, kept_stands, released_stands, taken_stands, number_is, lifted_stands, settled_stands}

-- ---- two lists, one behind the other

length_raised : (xs : List (Option Held)) (ns : List ℕ) → length (raised xs ns) ≡ length xs
length_raised [] ns = refl
length_raised (x ∷ xs) [] = ap suc (length_raised xs [])
length_raised (x ∷ xs) (n ∷ ns) = ap suc (length_raised xs ns)

pub at_raised : (xs : List (Option Held)) (ns : List ℕ) (b : ℕ) → slice_index_or (raised xs ns) b None ≡ with_more (slice_index_or ns b 0) (slice_index_or xs b None)
at_raised [] ns b = refl
at_raised (x ∷ xs) [] zero = refl
at_raised (x ∷ xs) [] (suc b) = at_raised xs [] b
at_raised (x ∷ xs) (n ∷ ns) zero = refl
at_raised (x ∷ xs) (n ∷ ns) (suc b) = at_raised xs ns b

set_raised : (xs : List (Option Held)) (ns : List ℕ) (b k : ℕ) → b < length ns → raised xs (slice_set ns b k) ≡ slice_set (raised xs ns) b (with_more k (slice_index_or xs b None))
set_raised [] ns b k within = refl
set_raised (x ∷ xs) [] b k within = absurd (omega (arith, within))
set_raised (x ∷ xs) (n ∷ ns) zero k within = refl
set_raised (x ∷ xs) (n ∷ ns) (suc b) k within = ap (λ ys. with_more n x ∷ ys) (set_raised xs ns b k (omega (arith, within)))

-- the place behind a list
abbrev past : {A : Type 0} → List A → ℕ → ℕ
past [] b = b
past (x ∷ xs) b = suc (past xs b)

module _ {A : Type 0} (d : A) where
  front : (xs ys : List A) (b : ℕ) → b < length xs → slice_index_or (xs ++ ys) b d ≡ slice_index_or xs b d
  front [] ys b within = absurd (omega (arith, within))
  front (x ∷ xs) ys zero within = refl
  front (x ∷ xs) ys (suc b) within = front xs ys b (omega (arith, within))

  behind : (xs ys : List A) (b : ℕ) → slice_index_or (xs ++ ys) (past xs b) d ≡ slice_index_or ys b d
  behind [] ys b = refl
  behind (x ∷ xs) ys b = behind xs ys b

  others_behind : (xs ys zs : List A) (b : ℕ) → ((c : ℕ) → c ≢ b → slice_index_or zs c d ≡ slice_index_or ys c d) → (c : ℕ) → c ≢ past xs b → slice_index_or (xs ++ zs) c d ≡ slice_index_or (xs ++ ys) c d
  others_behind [] ys zs b same c apart = same c apart
  others_behind (x ∷ xs) ys zs b same zero apart = refl
  others_behind (x ∷ xs) ys zs b same (suc c) apart = others_behind xs ys zs b same c (λ e. apart (ap suc e))

set_front : {A : Type 0} (xs ys : List A) (b : ℕ) (v : A) → b < length xs → slice_set (xs ++ ys) b v ≡ slice_set xs b v ++ ys
set_front [] ys b v within = absurd (omega (arith, within))
set_front (x ∷ xs) ys zero v within = refl
set_front (x ∷ xs) ys (suc b) v within = ap (λ zs. x ∷ zs) (set_front xs ys b v (omega (arith, within)))

set_behind : {A : Type 0} (xs ys : List A) (b : ℕ) (v : A) → slice_set (xs ++ ys) (past xs b) v ≡ xs ++ slice_set ys b v
set_behind [] ys b v = refl
set_behind (x ∷ xs) ys b v = ap (λ zs. x ∷ zs) (set_behind xs ys b v)

pub within_places : (xs : List (Option Held)) (b : ℕ) (M : Held → Type 0) → IsSomeAnd (slice_index_or xs b None) M → b < length xs
within_places [] b M live = elim live [ ]
within_places (x ∷ xs) zero M live = omega arith
within_places (x ∷ xs) (suc b) M live = omega (arith, within_places xs b M live)

-- the cells of a live buffer
held_cells : (h : HeapValue) (m : Heap) (b n : ℕ) (zs : List ℤ) → IsLive h b (IsNamed n) → content_of (at h b) ≡ In zs → StandsFor h m → zs ≡ machine.cells_of m n
held_cells h m b n zs live content stands =
    let s = some_there h b (IsNamed n) live in
    let old = stands.stored b s.0 s.1 in
    let is_in : s.0.content ≡ In zs = ap content_of (sym s.1) ∙ content in
    sym (subst (λ k. HasContent k (machine.cells_of m s.0.born)) is_in old.0.1) ∙ ap (machine.cells_of m) s.2.1

-- ---- own buffers

pub room_named : (h : HeapValue) (b n : ℕ) → IsLive h b (HasRoom n) → IsLive h b (IsNamed n)
room_named h b n live = go (at h b) live
  where
    go : (o : Option Held) → IsSomeAnd o (HasRoom n) → IsSomeAnd o (IsNamed n)
    go None none = none
    go (Some x) room = (room.0, room.1)

-- where a place of the own heap stands
abbrev behind_lent : Store → ℕ → ℕ
behind_lent s b = past (lent_places s.lent) b

own_at : (s : Store) (b : ℕ) → at (whole s) (behind_lent s b) ≡ at s.own b
own_at s b = behind None (lent_places s.lent) s.own.places b

own_placed : (s : Store) (b : ℕ) (x : Option Held) → whole (record s { own = with_place s.own b x }) ≡ with_place (whole s) (behind_lent s b) x
own_placed s b x = ap {B = HeapValue} (λ (ps : List (Option Held)). record (whole s) { places = ps }) (sym (set_behind (lent_places s.lent) s.own.places b x))

own_live : (s : Store) (b : ℕ) (M : Held → Type 0) → IsLive s.own b M → IsLive (whole s) (behind_lent s b) M
own_live s b M live = subst (λ o. IsSomeAnd o M) (sym (own_at s b)) live

pub own_cells : (s : Store) (m : Heap) (b n : ℕ) (zs : List ℤ) → IsLive s.own b (IsNamed n) → content_of (at s.own b) ≡ In zs → Stands s m → zs ≡ machine.cells_of m n
own_cells s m b n zs live content stands =
    held_cells (whole s) m (behind_lent s b) n zs (own_live s b (IsNamed n) live) (ap content_of (own_at s b) ∙ content) stands.all

-- the number of a live buffer is one of the machine's
pub own_within : (s : Store) (m : Heap) (b n : ℕ) → IsLive s.own b (IsNamed n) → Stands s m → n < length m.buffers
own_within s m b n live stands =
    let there = some_there (whole s) (behind_lent s b) (IsNamed n) (own_live s b (IsNamed n) live) in
    subst (λ k. k < length m.buffers) there.2.1 (stands.all.stored (behind_lent s b) there.0 there.1).1

-- one reference more
pub own_kept : (s : Store) (m : Heap) (b n : ℕ) → IsLive s.own b (IsNamed n) → Stands s m
    → Stands (record s { own = with_place s.own b (with_count (at s.own b) (count_of (at s.own b) + 1)) }) (machine.with_count m n (machine.count_of m n + 1))
own_kept s m b n live stands = record {
  all = subst (λ h. StandsFor h (machine.with_count m n (machine.count_of m n + 1))) (sym now) (kept_stands (whole s) m (behind_lent s b) n (own_live s b (IsNamed n) live) stands.all);
}
  where
    now : whole (record s { own = with_place s.own b (with_count (at s.own b) (count_of (at s.own b) + 1)) })
        ≡ with_place (whole s) (behind_lent s b) (with_count (at (whole s) (behind_lent s b)) (count_of (at (whole s) (behind_lent s b)) + 1))
    now =
        own_placed s b (with_count (at s.own b) (count_of (at s.own b) + 1))
        ∙ ap (λ o. with_place (whole s) (behind_lent s b) (with_count o (count_of o + 1))) (sym (own_at s b))

one_more : (l : Option LentValue) (counter : HeapValue → ℕ) (n : ℕ) → with_lent l counter ((n + 1) % 2 ^ 64) ≡ (with_lent l counter n + 1) % 2 ^ 64
one_more None counter n = refl
one_more (Some l) counter n =
    let next : counter l.heap + (n + 1) ≡ (counter l.heap + n) + 1 = omega arith in
    add-mod-mod (counter l.heap) (n + 1) (2 ^ 64) ∙ ap (λ k. k % 2 ^ 64) next ∙ sym (mod-add-mod (counter l.heap + n) (2 ^ 64) 1)

own_less : (c : ℕ) (s : Store) (b : ℕ) → whole (record s { own = released_at c s.own b }) ≡ released_at c (whole s) (behind_lent s b)
own_less zero s b = refl
own_less (suc zero) s b = λ i. record (whole s) { places = sym (set_behind (lent_places s.lent) s.own.places b None) i; given = one_more s.lent (λ h. h.given) s.own.given i }
own_less (suc (suc c)) s b =
    own_placed s b (with_count (at s.own b) (suc c)) ∙ ap (λ o. with_place (whole s) (behind_lent s b) (with_count o (suc c))) (sym (own_at s b))

-- one reference less
pub own_released : (s : Store) (m : Heap) (b n : ℕ) → IsLive s.own b (IsNamed n) → Stands s m → Stands (record s { own = released s.own b }) (release_count n (machine.count_of m n) m)
own_released s m b n live stands = record {
  all = subst (λ h. StandsFor h (release_count n (machine.count_of m n) m)) (sym now) (released_stands (whole s) m (behind_lent s b) n (own_live s b (IsNamed n) live) stands.all);
}
  where
    now : whole (record s { own = released s.own b }) ≡ released (whole s) (behind_lent s b)
    now = own_less (count_of (at s.own b)) s b ∙ ap (λ o. released_at (count_of o) (whole s) (behind_lent s b)) (sym (own_at s b))

-- a new buffer
module _ (s : Store) (k : HeapValue) (m : Heap) (b n : ℕ) (cells : List ℤ) (content : Content) (has : HasContent content cells) (here : at k b ≡ Some (record { born = n; count = 1; content = content })) (others : (c : ℕ) → c ≢ b → at k c ≡ at s.own c) (number : n ≡ s.own.births) (stands : Stands s m) where
  abbrev then_store : Store
  then_store = record { own = k; lent = s.lent }

  here_now : at (whole then_store) (behind_lent s b) ≡ Some (record { born = n; count = 1; content = content })
  here_now = own_at then_store b ∙ here

  others_now : (c : ℕ) → c ≢ behind_lent s b → at (whole then_store) c ≡ at (whole s) c
  others_now = others_behind None (lent_places s.lent) s.own.places k.places b others

  pub own_number : n ≡ length m.buffers
  own_number = number_is (whole s) (whole then_store) m (behind_lent s b) n cells content has here_now others_now number stands.all

  pub own_taken : k.births ≡ s.own.births + 1 → k.taken ≡ (s.own.taken + 1) % 2 ^ 64 → k.given ≡ s.own.given → k.reused ≡ s.own.reused → Stands (record { own = k; lent = s.lent }) (take_buffer cells m)
  own_taken births taken given reused =
      record {
        all = taken_stands (whole s) (whole then_store) m (behind_lent s b) n cells content has here_now others_now number stands.all births
            (ap (with_lent s.lent (λ h. h.taken)) taken ∙ one_more s.lent (λ h. h.taken) s.own.taken) (ap (with_lent s.lent (λ h. h.given)) given) (ap (with_lent s.lent (λ h. h.reused)) reused);
      }

-- cells are handed out
pub own_lifted : (s : Store) (m : Heap) (b : ℕ) (x : Held) → at s.own b ≡ Some x → Stands s m → Stands (record s { own = lifted s.own b }) m
own_lifted s m b x is stands = record {
  all = subst (λ h. StandsFor h m) (sym now) (lifted_stands (whole s) m (behind_lent s b) x (own_at s b ∙ is) stands.all);
}
  where
    now : whole (record s { own = lifted s.own b }) ≡ lifted (whole s) (behind_lent s b)
    now =
        own_placed s b (with_content (at s.own b) (Out (len_of (content_of (at s.own b)))))
        ∙ ap (λ o. with_place (whole s) (behind_lent s b) (with_content o (Out (len_of (content_of o))))) (sym (own_at s b))

-- cells are taken back
pub own_settled : (s : Store) (m : Heap) (b n len : ℕ) (cells : List ℤ) → IsLive s.own b (IsLifted n len) → Stands s m
    → Stands (record s { own = with_place s.own b (with_content (at s.own b) (In cells)) }) (machine.with_cells m n cells)
own_settled s m b n len cells live stands = record {
  all = subst (λ h. StandsFor h (machine.with_cells m n cells)) (sym now) (settled_stands (whole s) m (behind_lent s b) n len cells (own_live s b (IsLifted n len) live) stands.all);
}
  where
    now : whole (record s { own = with_place s.own b (with_content (at s.own b) (In cells)) })
        ≡ with_place (whole s) (behind_lent s b) (with_content (at (whole s) (behind_lent s b)) (In cells))
    now =
        own_placed s b (with_content (at s.own b) (In cells))
        ∙ ap (λ o. with_place (whole s) (behind_lent s b) (with_content o (In cells))) (sym (own_at s b))

-- ---- buffers that are lent

module _ (h : HeapValue) (l : LentValue) (b : ℕ) where
  abbrev store : Store
  store = record { own = h; lent = Some l }

  -- the store where the buffer at this place is held so often
  abbrev held : ℕ → LentValue
  held n = record l { holds = slice_set l.holds b n }

  pub lent_at : b < length l.heap.places → at (whole store) b ≡ with_more (holds_at l b) (at l.heap b)
  lent_at within =
      front None (raised l.heap.places l.holds) h.places b (subst (λ n. b < n) (sym (length_raised l.heap.places l.holds)) within)
      ∙ at_raised l.heap.places l.holds b

  lent_live : (n : ℕ) → IsLive l.heap b (IsNamed n) → IsLive (whole store) b (IsNamed n)
  lent_live n live = subst (λ o. IsSomeAnd o (IsNamed n)) (sym (lent_at (within_places l.heap.places b (IsNamed n) live))) (go (holds_at l b) (at l.heap b) live)
    where
      go : (k : ℕ) (o : Option Held) → IsSomeAnd o (IsNamed n) → IsSomeAnd (with_more k o) (IsNamed n)
      go k None none = none
      go k (Some x) named = named

  lent_held : (n : ℕ) → b < length l.heap.places → b < length l.holds → whole (record { own = h; lent = Some (held n) }) ≡ with_place (whole store) b (with_more n (at l.heap b))
  lent_held n within counted =
      ap {B = HeapValue} (λ (ps : List (Option Held)). record (whole store) { places = ps })
      (ap (λ ps. ps ++ h.places) (set_raised l.heap.places l.holds b n counted)
      ∙ sym (set_front (raised l.heap.places l.holds) h.places b (with_more n (at l.heap b)) (subst (λ k. b < k) (sym (length_raised l.heap.places l.holds)) within)))

content_more : (k : ℕ) (o : Option Held) → content_of (with_more k o) ≡ content_of o
content_more k None = refl
content_more k (Some x) = refl

pub lent_cells : (s : Store) (l : LentValue) (m : Heap) (b n : ℕ) (zs : List ℤ) → s.lent ≡ Some l → IsLive l.heap b (IsNamed n) → content_of (at l.heap b) ≡ In zs → Stands s m → zs ≡ machine.cells_of m n
lent_cells s l m b n zs is live content stands =
    let now : Stands (store s.own l b) m = subst (λ o. Stands (record { own = s.own; lent = o }) m) is stands in
    held_cells (whole (store s.own l b)) m b n zs (lent_live s.own l b n live)
    (ap content_of (lent_at s.own l b (within_places l.heap.places b (IsNamed n) live)) ∙ content_more (holds_at l b) (at l.heap b) ∙ content) now.all

more_once : (k : ℕ) (o : Option Held) → with_more (k + 1) o ≡ with_count (with_more k o) (count_of (with_more k o) + 1)
more_once k None = refl
more_once k (Some x) = let same : x.count + (k + 1) ≡ (x.count + k) + 1 = omega arith in ap {B = Option Held} (λ n. Some (record x { count = n })) same

-- the seat holds a buffer once more
pub lent_kept : (h : HeapValue) (l : LentValue) (m : Heap) (b n : ℕ) → IsLive l.heap b (IsNamed n) → b < length l.holds → Stands (record { own = h; lent = Some l }) m
    → Stands (record { own = h; lent = Some (held_once_more l b) }) (machine.with_count m n (machine.count_of m n + 1))
lent_kept h l m b n live counted stands = record {
  all = subst (λ w. StandsFor w (machine.with_count m n (machine.count_of m n + 1))) (sym now) (kept_stands (whole (store h l b)) m b n (lent_live h l b n live) stands.all);
}
  where
    within : b < length l.heap.places
    within = within_places l.heap.places b (IsNamed n) live

    now : whole (record { own = h; lent = Some (held_once_more l b) })
        ≡ with_place (whole (store h l b)) b (with_count (at (whole (store h l b)) b) (count_of (at (whole (store h l b)) b) + 1))
    now =
        lent_held h l b (holds_at l b + 1) within counted
        ∙ ap (with_place (whole (store h l b)) b) (more_once (holds_at l b) (at l.heap b))
        ∙ ap (λ o. with_place (whole (store h l b)) b (with_count o (count_of o + 1))) (sym (lent_at h l b within))

released_two : (n : ℕ) (h : HeapValue) (b : ℕ) → 2 ≤ n → released_at n h b ≡ with_place h b (with_count (at h b) (n - 1))
released_two zero h b two = absurd (omega (arith, two))
released_two (suc zero) h b two = absurd (omega (arith, two))
released_two (suc (suc n)) h b two =
    let next : suc (suc n) - 1 ≡ suc n = omega arith in
    ap (λ k. with_place h b (with_count (at h b) k)) (sym next)

less_once : (k : ℕ) (o : Option Held) → 1 ≤ k → with_more (k - 1) o ≡ with_count (with_more k o) (count_of (with_more k o) - 1)
less_once k None some = refl
less_once k (Some x) some = let same : x.count + (k - 1) ≡ (x.count + k) - 1 = omega (arith, some) in ap {B = Option Held} (λ n. Some (record x { count = n })) same

two_more : (k : ℕ) (o : Option Held) → 1 ≤ k → 1 ≤ count_of o → 2 ≤ count_of (with_more k o)
two_more k None some one = omega (arith, one)
two_more k (Some x) some one = omega (arith, some, one)

-- the seat holds a buffer once less, which is not given back
pub lent_released : (h : HeapValue) (l : LentValue) (m : Heap) (b n : ℕ) → IsLive l.heap b (IsNamed n) → b < length l.holds → 1 ≤ count_of (at l.heap b) → 1 ≤ holds_at l b
    → Stands (record { own = h; lent = Some l }) m → Stands (record { own = h; lent = Some (held_once_less l b) }) (release_count n (machine.count_of m n) m)
lent_released h l m b n live counted one some stands = record {
  all = subst (λ w. StandsFor w (release_count n (machine.count_of m n) m)) (sym now) (released_stands (whole (store h l b)) m b n (lent_live h l b n live) stands.all);
}
  where
    within : b < length l.heap.places
    within = within_places l.heap.places b (IsNamed n) live

    now : whole (record { own = h; lent = Some (held_once_less l b) }) ≡ released (whole (store h l b)) b
    now =
        lent_held h l b (holds_at l b - 1) within counted
        ∙ ap (with_place (whole (store h l b)) b) (less_once (holds_at l b) (at l.heap b) some)
        ∙ ap (λ o. with_place (whole (store h l b)) b (with_count o (count_of o - 1))) (sym (lent_at h l b within))
        ∙ sym (released_two (count_of (at (whole (store h l b)) b)) (whole (store h l b)) b (subst (λ o. 2 ≤ count_of o) (sym (lent_at h l b within)) (two_more (holds_at l b) (at l.heap b) some one)))

-- ---- what the calls answer

on_ok : {A E : Type 0} {P Q S : Type 0} (r : Result A E) → (P → Q → S) → OnOk r P → OnOk r Q → OnOk r S
on_ok (Ok a) f p q = f p q
on_ok (Err e) f p q = tt

module _ {A E : Type 0} (r : Result A E) (s : Store) (l k : LentValue) (m : Heap) (b n : ℕ) (is : s.lent ≡ Some l) (stands : Stands s m) (live : OnOk r (IsLive l.heap b (IsNamed n) × (b < length l.holds))) where
  now_stands : Stands (record { own = s.own; lent = Some l }) m
  now_stands = subst (λ o. Stands (record { own = s.own; lent = o }) m) is stands

  pub lent_keeps : OnOk r (k ≡ held_once_more l b) → OnOk r (Stands (record { own = s.own; lent = Some k }) (machine.with_count m n (machine.count_of m n + 1)))
  lent_keeps = on_ok r
      (λ there now. subst (λ j. Stands (record { own = s.own; lent = Some j }) (machine.with_count m n (machine.count_of m n + 1))) (sym now) (lent_kept s.own l m b n there.0 there.1 now_stands)) live

  pub lent_releases : OnOk r ((1 ≤ count_of (at l.heap b)) × (1 ≤ holds_at l b)) → OnOk r (k ≡ held_once_less l b) → OnOk r (Stands (record { own = s.own; lent = Some k }) (release_count n (machine.count_of m n) m))
  lent_releases two released = on_ok r
      (λ there now. subst (λ j. Stands (record { own = s.own; lent = Some j }) (release_count n (machine.count_of m n) m)) (sym now.1) (lent_released s.own l m b n there.0 there.1 now.0.0 now.0.1 now_stands)) live
      (both two released)
    where
      both : OnOk r ((1 ≤ count_of (at l.heap b)) × (1 ≤ holds_at l b)) → OnOk r (k ≡ held_once_less l b) → OnOk r (((1 ≤ count_of (at l.heap b)) × (1 ≤ holds_at l b)) × (k ≡ held_once_less l b))
      both = on_ok r (λ p q. (p, q))
