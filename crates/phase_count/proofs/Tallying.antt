-- A tally from one phase to the next.
use Rattle.std.proofs.Common.{◌≡◌, ℕ, ◌+◌, ◌%◌, ◌^◌, ◌<◌, List, [], ◌∷◌, ◌++◌, length, Option, refl, sym, ap, ◌∙◌, subst, arith}
use Rattle.std.proofs.Math.Nat.{mod-add-mod, add-mod-mod, mod-eq_of_lt}
use Rattle.count_table.specs.Tallied.{PhaseTotals}
use Rattle.index_cutter.specs.Cuts.{chunks_of}
use Rattle.phase_count.specs.Tallies.{Counts, PhaseNumbers, counted_in, draws_of, numbers_after, one_more, one_phase}

next_sum : (b n k : ℕ) → ((b + n) % 2 ^ 64 + k) % 2 ^ 64 ≡ (b + (n + k) % 2 ^ 64) % 2 ^ 64
next_sum b n k =
    let more : (b + n) + k ≡ b + (n + k) = omega arith in
    mod-add-mod (b + n) (2 ^ 64) k ∙ ap (λ i. i % 2 ^ 64) more ∙ sym (add-mod-mod b (n + k) (2 ^ 64))

-- one phase more was closed
pub next_in : (b d : ℕ) (p : PhaseNumbers) (n : ℕ) → one_phase (chunks_of p.workers p.chunk n) (counted_in b d p) ≡ counted_in b d (one_more n p)
next_in b d p n = λ i. record { phases = next_sum b p.number 1 i; draws = next_sum d p.draws (chunks_of p.workers p.chunk n) i }

pub next_tally : (t : PhaseTotals) (b d : ℕ) (p : PhaseNumbers) (n : ℕ) → t ≡ counted_in b d p → one_phase (chunks_of p.workers p.chunk n) t ≡ counted_in b d (one_more n p)
next_tally t b d p n is = ap (one_phase (chunks_of p.workers p.chunk n)) is ∙ next_in b d p n

-- before the first
pub fresh_in : (t : PhaseTotals) (b d workers : ℕ) (chunk : Option ℕ) → b ≡ t.phases → d ≡ t.draws → b < 2 ^ 64 → d < 2 ^ 64
    → t ≡ counted_in b d (record { workers = workers; chunk = chunk; number = 0; draws = 0 })
fresh_in t b d workers chunk same even low small =
    let whole : b ≡ b + 0 = omega arith in
    let all : d ≡ d + 0 = omega arith in
    λ i. record {
      phases = (sym same ∙ sym (mod-eq_of_lt low) ∙ ap (λ k. k % 2 ^ 64) whole) i;
      draws = (sym even ∙ sym (mod-eq_of_lt small) ∙ ap (λ k. k % 2 ^ 64) all) i;
    }

-- ---- phases one after another

draws_push : (workers : ℕ) (chunk : Option ℕ) (ns : List ℕ) (n : ℕ) → draws_of workers chunk (ns ++ n ∷ []) ≡ draws_of workers chunk ns + chunks_of workers chunk n
draws_push workers chunk [] n = omega arith
draws_push workers chunk (k ∷ ns) n = let rest = draws_push workers chunk ns n in omega (arith, rest)

length_push : (ns : List ℕ) (n : ℕ) → length (ns ++ n ∷ []) ≡ length ns + 1
length_push [] n = omega arith
length_push (k ∷ ns) n = let rest = length_push ns n in omega (arith, rest)

pub numbers_next : (workers : ℕ) (chunk : Option ℕ) (ns : List ℕ) (n : ℕ) → one_more n (numbers_after workers chunk ns) ≡ numbers_after workers chunk (ns ++ n ∷ [])
numbers_next workers chunk ns n = λ i. record {
  workers = workers;
  chunk = chunk;
  number = (mod-add-mod (length ns) (2 ^ 64) 1 ∙ ap (λ k. k % 2 ^ 64) (sym (length_push ns n))) i;
  draws = (mod-add-mod (draws_of workers chunk ns) (2 ^ 64) (chunks_of workers chunk n) ∙ ap (λ k. k % 2 ^ 64) (sym (draws_push workers chunk ns n))) i;
}

pub counts_more : (p : PhaseNumbers) (ns : List ℕ) (n : ℕ) → Counts p ns → Counts (one_more n p) (ns ++ n ∷ [])
counts_more p ns n is = ap (one_more n) is ∙ numbers_next p.workers p.chunk ns n

pub counts_on : (p : PhaseNumbers) (ns ms : List ℕ) → ns ≡ ms → Counts p ns → Counts p ms
counts_on p ns ms same is = subst (λ (l : List ℕ). Counts p l) same is

pub counts_as : (p q : PhaseNumbers) (ns ms : List ℕ) → q ≡ p → ns ≡ ms → Counts p ns → Counts q ms
counts_as p q ns ms now same is = subst (λ (r : PhaseNumbers). Counts r ms) (sym now) (counts_on p ns ms same is)

pub counts_none : (p : PhaseNumbers) → p.number ≡ 0 → p.draws ≡ 0 → Counts p []
counts_none p number draws = λ i. record { workers = p.workers; chunk = p.chunk; number = number i; draws = draws i }

-- phases that are cut alike draw alike
pub draws_same : (w v : ℕ) (c d : Option ℕ) → ((n : ℕ) → chunks_of w c n ≡ chunks_of v d n) → (ns : List ℕ) → draws_of w c ns ≡ draws_of v d ns
draws_same w v c d alike [] = refl
draws_same w v c d alike (n ∷ ns) = λ i. alike n i + draws_same w v c d alike ns i
