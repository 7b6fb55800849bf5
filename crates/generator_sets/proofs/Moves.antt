-- Grids that are moved, axis by axis.
use Rattle.std.proofs.Common.{◌≡◌, ℕ, zero, suc, ◌+◌, ◌%◌, ◌<◌, ◌≤◌, inl, inr, arith, refl, sym, ap, subst, ◌∙◌, List, [], ◌∷◌, length, get_or, set, pos, nat_lt}
use Rattle.std.specs.Prelude.{ℤ, ◌+ℤ◌, ◌-ℤ◌, unsigned_abs, false, ◌&&◌, FitsSigned}
use Rattle.std.proofs.Common.{w64}
use Rattle.std.specs.List.{AllZip}
use Rattle.std.proofs.lemmas.Int.{ints}
use Rattle.std.proofs.lemmas.Bool.{cases_lt}
use Rattle.std.proofs.lemmas.List.{get_or-set_same, get_or-set_other, length-set, get_or_default}
use Rattle.sac_base.specs.declared.grid.Grid1.{Grid1}
use Rattle.sac_base.specs.Grids.{has_index, has_vector}
use Rattle.sac_base.proofs.GridFacts.{has_facts}
use Rattle.generator_sets.specs.Pieces.{moved}

-- the grid of an axis, moved
pub record IsMoved (g : Grid1) (by : ℤ) (h : Grid1) : Type 0 where
  pub lo : h.lo ≡ g.lo +ℤ by
  pub hi : h.hi ≡ g.hi +ℤ by
  pub step : h.step ≡ g.step
  pub width : h.width ≡ g.width

moved_has : (g h : Grid1) (by x : ℤ) → IsMoved g by h → has_index h (x +ℤ by) ≡ has_index g x
moved_has g h by x m =
    let lo = m.lo in
    let hi = m.hi in
    elim (has_facts g x g.wide) [
      | inl a ↦ elim (has_facts h (x +ℤ by) h.wide) [
        | inl b ↦
            let gap : (x +ℤ by) -ℤ h.lo ≡ x -ℤ g.lo = omega (arith, ints) in
            b.2 ∙ ap (λ z. nat_lt (unsigned_abs z % unsigned_abs h.step) (unsigned_abs h.width)) gap
            ∙ ap (λ s. nat_lt (unsigned_abs (x -ℤ g.lo) % unsigned_abs s) (unsigned_abs h.width)) m.step
            ∙ ap (λ w. nat_lt (unsigned_abs (x -ℤ g.lo) % unsigned_abs g.step) (unsigned_abs w)) m.width ∙ sym a.2
        | inr b ↦ absurd (elim b.0 [ inl l ↦ omega (arith, ints, a.0, a.1) | inr l ↦ omega (arith, ints, a.0, a.1) ])
      ]
      | inr a ↦ elim (has_facts h (x +ℤ by) h.wide) [
        | inl b ↦ absurd (elim a.0 [ inl l ↦ omega (arith, ints, b.0, b.1) | inr l ↦ omega (arith, ints, b.0, b.1) ])
        | inr b ↦ b.1 ∙ sym a.1
      ]
    ]

-- the first k axes are moved, and the others are as they were
pub record MovedSoFar (a : List Grid1) (by : List ℤ) (k : ℕ) (now : List Grid1) : Type 0 where
  pub long : length now ≡ length a
  pub done : (j : ℕ) (d : Grid1) → j < k → j < length a → IsMoved (get_or a j d) (get_or by j (pos 0)) (get_or now j d)
  pub left : (j : ℕ) (d : Grid1) → k ≤ j → get_or now j d ≡ get_or a j d

moved_some : (by : List ℤ) (x : ℤ) (xs : List ℤ) → has_vector [] (moved (x ∷ xs) by) ≡ false
moved_some [] x xs = refl
moved_some (y ∷ ys) x xs = refl

pub moved_all : (a : List Grid1) (by : List ℤ) (now : List Grid1) → length by ≡ length a → length now ≡ length a
    → ((j : ℕ) (d : Grid1) → j < length a → IsMoved (get_or a j d) (get_or by j (pos 0)) (get_or now j d))
    → (v : List ℤ) → has_vector now (moved v by) ≡ has_vector a v
moved_all [] by [] e f h [] = refl
moved_all [] by [] e f h (x ∷ xs) = moved_some by x xs
moved_all [] by (n ∷ ns) e f h v = absurd (omega arith)
moved_all (g ∷ gs) by [] e f h v = absurd (omega arith)
moved_all (g ∷ gs) [] (n ∷ ns) e f h v = absurd (omega arith)
moved_all (g ∷ gs) (y ∷ ys) (n ∷ ns) e f h [] = refl
moved_all (g ∷ gs) (y ∷ ys) (n ∷ ns) e f h (x ∷ xs) =
    ap (λ t. t && has_vector ns (moved xs ys)) (moved_has g n y x (h 0 g (omega arith)))
    ∙ ap (λ t. has_index g x && t) (moved_all gs ys ns (omega arith) (omega arith) (λ j d l. h (suc j) d (omega arith)) xs)

pub zip_at : {A B : Type 0} (R : A → B → Type 0) (xs : List A) (ys : List B) → AllZip R xs ys → (k : ℕ) (d : A) (e : B) → k < length xs → R (get_or xs k d) (get_or ys k e)
zip_at R [] ys h k d e l = absurd (omega arith)
zip_at R (x ∷ xs) [] h k d e l = absurd h
zip_at R (x ∷ xs) (y ∷ ys) h zero d e l = h.0
zip_at R (x ∷ xs) (y ∷ ys) h (suc k) d e l = zip_at R xs ys h.1 k d e (omega arith)

pub none_moved : (a : List Grid1) (by : List ℤ) (now : List Grid1) → now ≡ a → MovedSoFar a by 0 now
none_moved a by now e = record { long = ap length e; done = λ j d h l. absurd (omega arith); left = λ j d h. ap (λ l. get_or l j d) e }

-- one more axis is moved
pub more_moved : (a : List Grid1) (by : List ℤ) (now : List Grid1) (k : ℕ) (g h : Grid1) (y : ℤ) → k < length now → g ≡ get_or now k g → y ≡ get_or by k (pos 0) → IsMoved g y h → MovedSoFar a by k now
    → MovedSoFar a by (k + 1) (set now k h)
more_moved a by now k g h y low e f m before =
    let long = before.long in
    record {
      long = length-set now k h ∙ before.long;
      done = λ j d l i. elim (cases_lt j k) [
        | inl earlier ↦
            subst (λ z. IsMoved (get_or a j d) (get_or by j (pos 0)) z) (sym (get_or-set_other now k j h d (λ s. absurd (omega (arith, s))))) (before.done j d earlier i)
        | inr not_earlier ↦
            let same : j ≡ k = omega arith in
            let was : get_or now k g ≡ get_or a k g = before.left k g (omega arith) in
            let here : IsMoved (get_or a k d) (get_or by k (pos 0)) (get_or (set now k h) k d) =
            subst (λ z. IsMoved (get_or a k d) (get_or by k (pos 0)) z) (sym (get_or-set_same now k h d low))
            (subst (λ z. IsMoved z (get_or by k (pos 0)) h) (e ∙ was ∙ get_or_default a k g d (omega arith)) (subst (λ z. IsMoved g z h) f m)) in
            subst (λ j. IsMoved (get_or a j d) (get_or by j (pos 0)) (get_or (set now k h) j d)) (sym same) here
      ];
      left = λ j d l. get_or-set_other now k j h d (λ s. absurd (omega (arith, s))) ∙ before.left j d (omega arith);
    }

-- what fits, at an axis that is not moved yet
pub fits_here : (a : List Grid1) (by : List ℤ) (now : List Grid1) (k : ℕ) (g : Grid1) → MovedSoFar a by k now → k < length now → g ≡ get_or now k g
    → AllZip (λ axis y. FitsSigned w64 (axis.lo +ℤ y) × FitsSigned w64 (axis.hi +ℤ y)) a by
    → FitsSigned w64 (g.lo +ℤ get_or by k (pos 0)) × FitsSigned w64 (g.hi +ℤ get_or by k (pos 0))
fits_here a by now k g so_far low e fits =
    let long = so_far.long in
    let was : get_or a k g ≡ g = sym (e ∙ so_far.left k g (omega arith)) in
    subst (λ z. FitsSigned w64 (z.lo +ℤ get_or by k (pos 0)) × FitsSigned w64 (z.hi +ℤ get_or by k (pos 0))) was
    (zip_at (λ axis y. FitsSigned w64 (axis.lo +ℤ y) × FitsSigned w64 (axis.hi +ℤ y)) a by fits k g (pos 0) (omega arith))
