-- The main heap after a phase whose result was written over an array.
use Rattle.std.proofs.Common.{◌≡◌, ℕ, zero, suc, ◌+◌, ◌<◌, ◌≤◌, ◌%◌, ◌^◌, Bool, true, false, eqb, List, [], ◌∷◌, ℤ, Option, Some, None, refl, ap, ◌∙◌, sym, subst, length, slice_index_or, slice_set, arith}
use Rattle.std.specs.Prelude.{IsSomeAnd}
use Rattle.std.proofs.lemmas.Bool.{eqb-true, eqb-false}
use Rattle.std.proofs.lemmas.List.{get_or-set_same, get_or-set_other, length-set}
use Rattle.std.proofs.Math.Nat.{mod-add-mod}
use Rattle.buffer_heap.specs.Heaps.{Content, In, Out, Held, HeapValue, at, IsLive, with_content, content_of, len_of, lifted}
use Rattle.counted_code.specs.Values.{Buffer, Heap, buffer_at, count_of, cells_of}
use Rattle.phase_loop_laws.specs.over_phases.Statements.{PassedOver, reusing}
use Rattle.phase_books.specs.Homes.{IsBehind, handed}
use Rattle.phase_books.specs.Over.{reused_at, settled_over}
use Rattle.phase_workers.proofs.Handing.{added}
use Rattle.run_over.specs.Soles.{IsSoleOf}
use Rattle.run_store.specs.Stands.{Stored, StandsFor}
use Rattle.run_store.proofs.Changes.{some_there}

-- ---- what stands at each place

abbrev IsNothing : Option Held → Type 0
IsNothing None = Unit {0}
IsNothing (Some x) = ⊥

within : (xs : List (Option Held)) (p : ℕ) (x : Held) → slice_index_or xs p None ≡ Some x → p < length xs
within [] p x is = absurd (subst IsNothing is tt)
within (o ∷ xs) zero x is = omega arith
within (o ∷ xs) (suc p) x is = omega (arith, within xs p x is)

module _ (h : HeapValue) (p : ℕ) (y : Held) (there : at h p ≡ Some y) (cells : List ℤ) where
  abbrev out : Option Held
  out = with_content (at h p) (Out (len_of (content_of (at h p))))

  abbrev back : Option Held
  back = with_content (at (reused_at h p) p) (In cells)

  inside : p < length h.places
  inside = within h.places p y there

  was_out : at (reused_at h p) p ≡ out
  was_out = get_or-set_same h.places p out None inside

  settled_here : at (settled_over h p cells) p ≡ Some (record y { content = In cells })
  settled_here =
      get_or-set_same (slice_set h.places p out) p back None (subst (λ n. p < n) (sym (length-set h.places p out)) inside)
      ∙ ap (λ o. with_content o (In cells)) was_out
      ∙ ap (λ o. with_content (with_content o (Out (len_of (content_of o)))) (In cells)) there

  settled_elsewhere : (q : ℕ) → eqb p q ≡ false → at (settled_over h p cells) q ≡ at h q
  settled_elsewhere q apart =
      get_or-set_other (slice_set h.places p out) p q back None other ∙ get_or-set_other h.places p q out None other
    where
      other : q ≡ p → ⊥
      other same = eqb-false p q apart (sym same)

  -- a buffer there was there, with its number, its references and, at another place, its cells
  pub record Was (q : ℕ) (x : Held) : Type 0 where
    pub before : Held
    pub there_before : at h q ≡ Some before
    pub born : x.born ≡ before.born

  pub was : (q : ℕ) (x : Held) → at (settled_over h p cells) q ≡ Some x → Was q x
  was q x is = go (eqb p q) refl
    where
      go : (r : Bool) → eqb p q ≡ r → Was q x
      go true e =
          let same : p ≡ q = eqb-true p q e in
          let this : Some (record y { content = In cells }) ≡ Some x = sym settled_here ∙ ap (at (settled_over h p cells)) same ∙ is in
          record { before = y; there_before = ap (at h) (sym same) ∙ there; born = some_born this }
        where
          some_born : ◌≡◌ {A = Option Held} (Some (record y { content = In cells })) (Some x) → x.born ≡ y.born
          some_born this = cc
      go false e = record { before = x; there_before = sym (settled_elsewhere q e) ∙ is; born = refl }

-- ---- it stands for the machine's heap after the loop

module _ (h home : HeapValue) (m k : Heap) (b n positions p : ℕ) (cells : List ℤ) (referred : (q : ℕ) (x : Held) → at h q ≡ Some x → 1 ≤ x.count) (stands : StandsFor h m) (passed : PassedOver b cells n (reusing positions m) k) (behind : IsBehind h n home) (sole : IsLive h p (IsSoleOf b)) where
  abbrev after : HeapValue
  after = settled_over (handed h home) p cells

  abbrev it : (y : Held) × (at h p ≡ Some y) × IsSoleOf b y
  it = some_there h p (IsSoleOf b) sole

  counters : (x y a n b : ℕ) → x ≡ a % 2 ^ 64 → y % 2 ^ 64 ≡ n % 2 ^ 64 → b ≡ a + n → (x + y) % 2 ^ 64 ≡ b % 2 ^ 64
  counters x y a n b first second sum = added x y a n b first second sum

  stored_here : Stored (buffer_at k it.0.born) (record it.0 { content = In cells })
  stored_here =
      (passed.counts it.0.born ∙ (stands.stored p it.0 it.1).0.0, subst (λ c. cells_of k c ≡ cells) (sym it.2.1) passed.written)

  apart : (q : ℕ) (x : Held) → eqb p q ≡ false → at h q ≡ Some x → eqb b x.born ≡ false
  apart q x other is = go (eqb b x.born) refl
    where
      go : (r : Bool) → eqb b x.born ≡ r → r ≡ false
      go false e = refl
      go true e =
          elim (eqb-false p q other (stands.single p q it.0 x it.1 is (it.2.1 ∙ eqb-true b x.born e))) [ ]

  stored_elsewhere : (q : ℕ) (x : Held) → eqb p q ≡ false → at h q ≡ Some x → Stored (buffer_at k x.born) x
  stored_elsewhere q x other is =
      let old = (stands.stored q x is).0 in
      let some = subst (λ c. 1 ≤ c) (sym old.0) (referred q x is) in
      subst (λ (y : Buffer). Stored y x) (sym (passed.buffers x.born (apart q x other is) some)) old

  stored : (q : ℕ) (x : Held) → at after q ≡ Some x → Stored (buffer_at k x.born) x
  stored q x is = go (eqb p q) refl
    where
      go : (r : Bool) → eqb p q ≡ r → Stored (buffer_at k x.born) x
      go true e =
          let same : p ≡ q = eqb-true p q e in
          let this : Some (record it.0 { content = In cells }) ≡ Some x = sym (settled_here (handed h home) p it.0 it.1 cells) ∙ ap (at after) same ∙ is in
          subst (λ (z : Held). Stored (buffer_at k z.born) z) (some_is this) stored_here
        where
          some_is : ◌≡◌ {A = Option Held} (Some (record it.0 { content = In cells })) (Some x) → record it.0 { content = In cells } ≡ x
          some_is this = cc
      go false e = stored_elsewhere q x e (sym (settled_elsewhere (handed h home) p it.0 it.1 cells q e) ∙ is)

  low : (q : ℕ) (x : Held) → at after q ≡ Some x → x.born < length k.buffers
  low q x is =
      let w = was (handed h home) p it.0 it.1 cells q x is in
      let before = (stands.stored q w.before w.there_before).1 in
      let more = passed.places in
      let born = w.born in
      omega (arith, before, more, born)

  single : (q r : ℕ) (x y : Held) → at after q ≡ Some x → at after r ≡ Some y → x.born ≡ y.born → q ≡ r
  single q r x y first second same =
      let u = was (handed h home) p it.0 it.1 cells q x first in
      let v = was (handed h home) p it.0 it.1 cells r y second in
      stands.single q r u.before v.before u.there_before v.there_before (sym u.born ∙ same ∙ v.born)

  reused_more : ((h.reused + home.reused) % 2 ^ 64 + 1) % 2 ^ 64 ≡ k.reused % 2 ^ 64
  reused_more =
      ap (λ r. (r + 1) % 2 ^ 64) (counters h.reused home.reused m.reused 0 m.reused stands.reused behind.reused (let same : m.reused ≡ m.reused + 0 = omega arith in same))
      ∙ mod-add-mod m.reused (2 ^ 64) 1
      ∙ ap (λ r. r % 2 ^ 64) (sym passed.reused)

  pub over_stands : StandsFor after k
  over_stands = record {
    stored = λ q x is. (stored q x is, low q x is);
    single = single;
    births = behind.births ∙ ap (λ j. j + n) stands.births ∙ sym passed.places;
    taken = counters h.taken home.taken m.taken n k.taken stands.taken behind.taken passed.taken;
    given = counters h.given home.given m.given n k.given stands.given behind.given passed.given;
    reused = reused_more;
  }
