-- How often a seat holds each buffer, after one hold more or less.
use Rattle.std.proofs.Common.{◌≡◌, ◌≢◌, ℕ, zero, suc, ◌+◌, ◌-◌, ◌<◌, ◌≤◌, Bool, true, false, eqb, cond, List, ◌∷◌, [], length, replicate, refl, ap, ◌∙◌, sym, subst, slice_index_or, slice_set, arith}
use Rattle.std.proofs.lemmas.Bool.{eqb-true, eqb-false, eq-eqb}
use Rattle.std.proofs.lemmas.List.{length-set, get_or-set_same, get_or-set_other}
use Rattle.buffer_heap.specs.Heaps.{HeapValue}
use Rattle.count_table.specs.Seats.{PhaseId, WorkerState}
use Rattle.count_table.specs.Views.{times, without}
use Rattle.count_table.proofs.Totals.{times-length, times-without, length-without}
use Rattle.run_store.specs.Lents.{ChunkPart, IsCounted, LentValue, held_once_less, holds_at}

-- what stands at a place of a list, whatever is said where there is none
pub there_within : (ns : List ℕ) (b d : ℕ) → b < length ns → slice_index_or ns b d ≡ slice_index_or ns b 0
there_within [] b d within = absurd (omega (arith, within))
there_within (n ∷ ns) zero d within = refl
there_within (n ∷ ns) (suc b) d within = there_within ns b d (omega (arith, within))

module _ (hs ns : List ℕ) (b : ℕ) (held : (c : ℕ) → times c hs ≡ slice_index_or ns c 0) (within : b < length ns) where
  pub more_held : (c : ℕ) → times c (b ∷ hs) ≡ slice_index_or (slice_set ns b (slice_index_or ns b 0 + 1)) c 0
  more_held c = go (eqb b c) refl
    where
      more_here : cond {A = ℕ} (eqb b b) 1 0 ≡ 1 → times b (b ∷ hs) ≡ slice_index_or (slice_set ns b (slice_index_or ns b 0 + 1)) b 0
      more_here one =
          let now = get_or-set_same ns b (slice_index_or ns b 0 + 1) 0 within in
          let there = held b in
          omega (arith, one, now, there)

      go : (r : Bool) → eqb b c ≡ r → times c (b ∷ hs) ≡ slice_index_or (slice_set ns b (slice_index_or ns b 0 + 1)) c 0
      go true e =
          let same = eqb-true b c e in
          let one : cond {A = ℕ} (eqb b c) 1 0 ≡ 1 = ap (λ r. cond {A = ℕ} r 1 0) e in
          subst (λ d. times d (b ∷ hs) ≡ slice_index_or (slice_set ns b (slice_index_or ns b 0 + 1)) d 0) same (more_here (subst (λ d. cond {A = ℕ} (eqb b d) 1 0 ≡ 1) (sym same) one))
      go false e =
          let none : cond {A = ℕ} (eqb b c) 1 0 ≡ 0 = ap (λ r. cond {A = ℕ} r 1 0) e in
          let other = get_or-set_other ns b c (slice_index_or ns b 0 + 1) 0 (λ s. eqb-false b c e (sym s)) in
          let there = held c in
          omega (arith, none, other, there)

  pub less_held : 0 < times b hs → (c : ℕ) → times c (without b hs) ≡ slice_index_or (slice_set ns b (slice_index_or ns b 0 - 1)) c 0
  less_held some c = go (eqb b c) refl
    where
      less_here : cond {A = ℕ} (eqb b b) 1 0 ≡ 1 → times b (without b hs) ≡ slice_index_or (slice_set ns b (slice_index_or ns b 0 - 1)) b 0
      less_here one =
          let now = get_or-set_same ns b (slice_index_or ns b 0 - 1) 0 within in
          let there = held b in
          let less = times-without b b hs some in
          omega (arith, one, now, there, less, some)

      go : (r : Bool) → eqb b c ≡ r → times c (without b hs) ≡ slice_index_or (slice_set ns b (slice_index_or ns b 0 - 1)) c 0
      go true e =
          let same = eqb-true b c e in
          let one : cond {A = ℕ} (eqb b c) 1 0 ≡ 1 = ap (λ r. cond {A = ℕ} r 1 0) e in
          subst (λ d. times d (without b hs) ≡ slice_index_or (slice_set ns b (slice_index_or ns b 0 - 1)) d 0) same (less_here (subst (λ d. cond {A = ℕ} (eqb b d) 1 0 ≡ 1) (sym same) one))
      go false e =
          let none : cond {A = ℕ} (eqb b c) 1 0 ≡ 0 = ap (λ r. cond {A = ℕ} r 1 0) e in
          let other = get_or-set_other ns b c (slice_index_or ns b 0 - 1) 0 (λ s. eqb-false b c e (sym s)) in
          let there = held c in
          let less = times-without b c hs some in
          omega (arith, none, other, there, less)

-- one hold is one of all
pub few_held : (h : HeapValue) (p : PhaseId ChunkPart) (s : WorkerState ChunkPart) (ns : List ℕ) (all b : ℕ) → IsCounted h p s ns all → slice_index_or ns b 0 ≤ all
few_held h p s ns all b counted =
    let held = counted.held b in
    let most = times-length b s.holds in
    let are = counted.all_are in
    omega (arith, held, most, are)

pub counted_more : (h : HeapValue) (p : PhaseId ChunkPart) (s : WorkerState ChunkPart) (ns : List ℕ) (all b : ℕ) → IsCounted h p s ns all → b < length h.places
    → IsCounted h p (record s { holds = b ∷ s.holds }) (slice_set ns b (slice_index_or ns b 0 + 1)) (all + 1)
counted_more h p s ns all b counted within = record {
  phase_is = counted.phase_is;
  places = counted.places;
  each = length-set ns b (slice_index_or ns b 0 + 1) ∙ counted.each;
  held = more_held s.holds ns b counted.held (subst (λ n. b < n) (sym counted.each) within);
  all_are = (let are = counted.all_are in omega (arith, are));
}

pub counted_less : (h : HeapValue) (p : PhaseId ChunkPart) (s : WorkerState ChunkPart) (ns : List ℕ) (all b : ℕ) → IsCounted h p s ns all → b < length h.places → 1 ≤ slice_index_or ns b 0
    → IsCounted h p (record s { holds = without b s.holds }) (slice_set ns b (slice_index_or ns b 0 - 1)) (all - 1)
counted_less h p s ns all b counted within some =
    let there = counted.held b in
    let held : 0 < times b s.holds = omega (arith, there, some) in
    record {
      phase_is = counted.phase_is;
      places = counted.places;
      each = length-set ns b (slice_index_or ns b 0 - 1) ∙ counted.each;
      held = less_held s.holds ns b counted.held (subst (λ n. b < n) (sym counted.each) within) held;
      all_are = (let are = counted.all_are in let less = length-without b s.holds held in omega (arith, are, less));
    }

-- ---- no hold

none_of : (hs : List ℕ) → ((b : ℕ) → times b hs ≡ 0) → hs ≡ []
none_of [] none = refl
none_of (h ∷ hs) none = absurd (let here = none h in let one = ap (λ r. cond {A = ℕ} r 1 0) (eq-eqb h h refl) in omega (arith, here, one))

pub none_held : (h : HeapValue) (p : PhaseId ChunkPart) (s : WorkerState ChunkPart) (ns : List ℕ) (all : ℕ) → IsCounted h p s ns all → ((b : ℕ) → slice_index_or ns b 0 ≡ 0) → s.holds ≡ []
none_held h p s ns all counted none = none_of s.holds (λ b. counted.held b ∙ none b)

pub all_zero : (ns : List ℕ) → ((b : ℕ) → slice_index_or ns b 0 ≡ 0) → ns ≡ replicate (length ns) 0
all_zero [] none = refl
all_zero (n ∷ ns) none = λ i. none 0 i ∷ all_zero ns (λ b. none (suc b)) i

-- a count above 0 stands within the list
pub some_within : (ns : List ℕ) (b : ℕ) → 1 ≤ slice_index_or ns b 0 → b < length ns
some_within [] b some = absurd (omega (arith, some))
some_within (n ∷ ns) zero some = omega arith
some_within (n ∷ ns) (suc b) some = omega (arith, some_within ns b some)

-- one hold less at a place
pub less_here : (l : LentValue) (b : ℕ) → 1 ≤ holds_at l b → holds_at (held_once_less l b) b + 1 ≡ holds_at l b
less_here l b some = let now = get_or-set_same l.holds b (holds_at l b - 1) 0 (some_within l.holds b some) in omega (arith, some, now)

pub less_others : (l : LentValue) (b c : ℕ) → c ≢ b → holds_at (held_once_less l b) c ≡ holds_at l c
less_others l b c apart = get_or-set_other l.holds b c (holds_at l b - 1) 0 apart

pub less_length : (l : LentValue) (b : ℕ) → length (held_once_less l b).holds ≡ length l.holds
less_length l b = length-set l.holds b (holds_at l b - 1)

pub all_none : (ns : List ℕ) (n : ℕ) → length ns ≤ n → ((b : ℕ) → b < n → slice_index_or ns b 0 ≡ 0) → (b : ℕ) → slice_index_or ns b 0 ≡ 0
all_none [] n most none b = refl
all_none (m ∷ ns) zero most none b = absurd (omega (arith, most))
all_none (m ∷ ns) (suc n) most none zero = none 0 (omega arith)
all_none (m ∷ ns) (suc n) most none (suc b) = all_none ns n (omega (arith, most)) (λ c low. none (suc c) (omega (arith, low))) b
