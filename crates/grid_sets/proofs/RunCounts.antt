-- How many runs there are.
use Rattle.std.proofs.Common.{◌≡◌, ℕ, zero, suc, ◌+◌, ◌-◌, ◌<◌, ◌≤◌, inl, inr, arith, sym, ap, ◌∙◌, List, [], ◌∷◌, ◌++◌, length}
use Rattle.std.specs.Prelude.{ℤ, pos, ◌+ℤ◌, ◌-ℤ◌, ◌≤ℤ◌, ◌<ℤ◌, unsigned_abs, true, false, not, cond}
use Rattle.std.proofs.lemmas.Int.{ints}
use Rattle.std.proofs.lemmas.List.{length-append}
use Rattle.sac_base.specs.declared.grid.Grid1.{Grid1}
use Rattle.sac_base.specs.Grids.{within}
use Rattle.sac_base.proofs.GridFacts.{gap_is, within_is}
use Rattle.grid_sets.specs.Segments.{alike, begins_run, run_count}
use Rattle.grid_sets.proofs.Likeness.{alike_trans, alike_back, alike_across}

-- the number behind a distance
pub place_is : (from x : ℤ) → from ≤ℤ x → x ≡ from +ℤ pos (unsigned_abs (x -ℤ from))
place_is from x h = omega (arith, ints)

plain : (n : ℕ) → n + 0 ≡ n
plain n = omega arith

goes_on : (grids : List Grid1) (from : ℤ) (n : ℕ) → alike grids (from +ℤ pos n) (from +ℤ pos (suc n)) ≡ true
    → run_count grids from (suc (suc n)) ≡ run_count grids from (suc n)
goes_on grids from n h = ap (λ t. run_count grids from (suc n) + cond (not t) 1 0) h ∙ plain (run_count grids from (suc n))

starts : (grids : List Grid1) (from : ℤ) (n : ℕ) → begins_run grids from n ≡ true → run_count grids from (suc n) ≡ run_count grids from n + 1
starts grids from n h = ap (λ t. run_count grids from n + cond t 1 0) h

-- a run of m + 1 numbers is one run
one_run : (grids : List Grid1) (from : ℤ) (start m : ℕ) → begins_run grids from start ≡ true
    → ((k : ℕ) → start ≤ k → k < suc (start + m) → alike grids (from +ℤ pos start) (from +ℤ pos k) ≡ true)
    → run_count grids from (suc (start + m)) ≡ run_count grids from start + 1
one_run grids from start zero first same =
    let e : start + 0 ≡ start = omega arith in
    ap (λ n. run_count grids from (suc n)) e ∙ starts grids from start first
one_run grids from start (suc m) first same =
    let e : start + suc m ≡ suc (start + m) = omega arith in
    let near = same (start + m) (omega arith) (omega arith) in
    let far = same (suc (start + m)) (omega arith) (omega arith) in
    ap (λ n. run_count grids from (suc n)) e
    ∙ goes_on grids from (start + m) (alike_trans grids _ (from +ℤ pos start) _ (alike_back grids (from +ℤ pos start) (from +ℤ pos (start + m)) near) far)
    ∙ one_run grids from start m first (λ k h l. same k h (omega arith))

pub run_counted : (grids xs ys : List Grid1) (g : Grid1) (from : ℤ) (start stop : ℕ) → ys ≡ xs ++ g ∷ [] → start < stop → begins_run grids from start ≡ true
    → ((k : ℕ) → start ≤ k → k < stop → alike grids (from +ℤ pos start) (from +ℤ pos k) ≡ true)
    → length xs ≡ run_count grids from start → length ys ≡ run_count grids from stop
run_counted grids xs ys g from start stop e h first same before =
    let last : suc (start + (stop - suc start)) ≡ stop = omega arith in
    let one = one_run grids from start (stop - suc start) first (λ k l m. same k l (omega arith)) in
    ap length e ∙ length-append xs (g ∷ []) ∙ ap (λ n. n + 1) before ∙ sym one ∙ ap (run_count grids from) last

-- a run's numbers by their distance from the segment's first
pub same_places : (grids : List Grid1) (from f t : ℤ) → from ≤ℤ f → f <ℤ t
    → ((x : ℤ) → within f t x ≡ true → alike grids f x ≡ true)
    → (k : ℕ) → unsigned_abs (f -ℤ from) ≤ k → k < unsigned_abs (t -ℤ from) → alike grids f (from +ℤ pos k) ≡ true
same_places grids from f t h l same k a b =
    let low = gap_is f from h in
    let high = gap_is t from (omega (arith, ints)) in
    same (from +ℤ pos k) (elim (within_is f t (from +ℤ pos k)) [
      | inl here ↦ here.2
      | inr off ↦ absurd (elim off.0 [ inl c ↦ omega (arith, ints) | inr c ↦ omega (arith, ints) ])
    ])

pub begins_next : (grids : List Grid1) (from f t to : ℤ) → from ≤ℤ f → f <ℤ t → ((x : ℤ) → within f t x ≡ true → alike grids f x ≡ true)
    → (t <ℤ to → alike grids f t ≡ false) → t <ℤ to → begins_run grids from (unsigned_abs (t -ℤ from)) ≡ true
begins_next grids from f t to h l same change more =
    let high = gap_is t from (omega (arith, ints)) in
    let low = gap_is f from h in
    let e : unsigned_abs (t -ℤ from) ≡ suc (unsigned_abs (t -ℤ from) - 1) = omega (arith, ints) in
    let last = same_places grids from f t h l same (unsigned_abs (t -ℤ from) - 1) (omega (arith, ints)) (omega (arith, ints)) in
    let there : t ≡ from +ℤ pos (suc (unsigned_abs (t -ℤ from) - 1)) = omega (arith, ints) in
    ap (begins_run grids from) e
    ∙ ap not (alike_across grids f (from +ℤ pos (unsigned_abs (t -ℤ from) - 1)) (from +ℤ pos (suc (unsigned_abs (t -ℤ from) - 1))) last (ap (alike grids f) (sym there) ∙ change more))
