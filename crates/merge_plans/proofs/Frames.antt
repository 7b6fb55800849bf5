-- Axes of the same numbers are the same; frames of some extents that have an index.
use Rattle.std.proofs.Common.{◌≡◌, ◌<◌, ◌%◌, nat_lt, ◌⊎◌, inl, inr, Bool, true, false, ◌&&◌, List, [], ◌∷◌, refl, ap, sym, subst, ◌∙◌, arith, true≢false, ℕ, ℤ, pos, negsuc, ◌-ℤ◌, ◌≤ℤ◌, ◌<ℤ◌, get_or, drop}
use Rattle.std.proofs.Math.Dec.{T_prop}
use Rattle.std.specs.Prelude.{unsigned_abs}
use Rattle.std.proofs.lemmas.Int.{ints}
use Rattle.std.proofs.lemmas.Bool.Decides.{nat_tests}
use Rattle.sac_base.specs.declared.grid.Grid1.{Grid1}
use Rattle.sac_base.specs.Grids.{has_index, has_vector}
use Rattle.sac_base.specs.WithLoops.{distance}
use Rattle.sac_base.proofs.GridFacts.{has_facts}
use Rattle.merge_plans.specs.Filled.{IsFilled, IsFilledAxis}

-- ---- the same numbers

one_proof : (a b : ℤ) (p q : a ≤ℤ b) → p ≡ q
one_proof a b p q = λ i. record { le = T_prop _ p.le q.le i }

abbrev made : (lo hi step width : ℤ) → pos 1 ≤ℤ step → pos 1 ≤ℤ width → Grid1
made lo hi step width s w = record { lo = lo; hi = hi; step = step; width = width; steps = s; wide = w }

same_step : (lo hi s t w : ℤ) (x : pos 1 ≤ℤ s) (y : pos 1 ≤ℤ t) (q : pos 1 ≤ℤ w) → s ≡ t → made lo hi s w x q ≡ made lo hi t w y q
same_step lo hi s t w x y q e =
    subst (λ u. (z : pos 1 ≤ℤ u) → made lo hi s w x q ≡ made lo hi u w z q) e (λ z. ap (λ v. made lo hi s w v q) (one_proof (pos 1) s x z)) y

same_width : (lo hi s v w : ℤ) (x : pos 1 ≤ℤ s) (p : pos 1 ≤ℤ v) (q : pos 1 ≤ℤ w) → v ≡ w → made lo hi s v x p ≡ made lo hi s w x q
same_width lo hi s v w x p q e =
    subst (λ u. (z : pos 1 ≤ℤ u) → made lo hi s v x p ≡ made lo hi s u x z) e (λ z. ap (λ y. made lo hi s v x y) (one_proof (pos 1) v p z)) q

pub same_axis : (g h : Grid1) → g.lo ≡ h.lo → g.hi ≡ h.hi → g.step ≡ h.step → g.width ≡ h.width → g ≡ h
same_axis g h l u s w =
    (λ i. made (l i) (u i) g.step g.width g.steps g.wide) ∙ same_step h.lo h.hi g.step h.step g.width g.steps h.steps g.wide s ∙ same_width h.lo h.hi h.step g.width h.width h.steps g.wide h.wide w

-- ---- frames that have an index

both_true : (a b : Bool) → (a && b) ≡ true → (a ≡ true) × (b ≡ true)
both_true true b h = (refl, h)
both_true false b h = absurd (true≢false (sym h))

both : (a b : Bool) → a ≡ true → b ≡ true → (a && b) ≡ true
both a b p q = (λ i. p i && b) ∙ q

-- the lower bound is a member
low_in : (g : Grid1) → g.lo <ℤ g.hi → has_index g g.lo ≡ true
low_in g h = elim (has_facts g g.lo g.wide) [
  | inl y ↦ y.2 ∙ small (unsigned_abs (g.lo -ℤ g.lo)) (unsigned_abs g.step) (unsigned_abs g.width) nothing (wide g.wide)
  | inr n ↦ absurd (out n.0)
]
  where
    nothing : unsigned_abs (g.lo -ℤ g.lo) ≡ 0
    nothing = omega (arith, ints)

    wide : pos 1 ≤ℤ g.width → 0 < unsigned_abs g.width
    wide w = omega (arith, ints)

    out : (g.lo <ℤ g.lo) ⊎ (g.hi ≤ℤ g.lo) → ⊥
    out (inl k) = absurd (omega (arith, ints))
    out (inr k) = absurd (omega (arith, ints))

    lesser : (w : ℕ) → 0 < w → nat_lt 0 w ≡ true
    lesser w k = first_of (grind (arith, nat_tests))

    small : (d s w : ℕ) → d ≡ 0 → 0 < w → nat_lt (d % s) w ≡ true
    small d s w e k = (λ i. nat_lt (e i % s) w) ∙ (λ i. nat_lt (zero_rem s i) w) ∙ lesser w k
      where
        zero_rem : (s : ℕ) → 0 % s ≡ 0
        zero_rem s = omega arith

member_rises : (g : Grid1) (x : ℤ) → has_index g x ≡ true → g.lo <ℤ g.hi
member_rises g x h = elim (has_facts g x g.wide) [
  | inl y ↦ let low = y.0 in let high = y.1 in omega (arith, ints)
  | inr n ↦ absurd (true≢false (sym h ∙ n.1))
]

long : (d z : ℤ) → pos 0 <ℤ d → d ≡ z → pos (distance d) ≡ z
long (pos n) z h e = e
long (negsuc n) z h e = absurd (omega (arith, ints))

length_is : (d z : ℤ) → pos 0 <ℤ d → pos (distance d) ≡ z → d ≡ z
length_is (pos n) z h e = e
length_is (negsuc n) z h e = absurd (omega (arith, ints))

pub filled_none : IsFilled [] []
filled_none = record { extents_are = refl; index = ([], refl) }

pub filled_more : (g : Grid1) (gs : List Grid1) (z : ℤ) (zs : List ℤ) → IsFilledAxis g z → IsFilled gs zs → IsFilled (g ∷ gs) (z ∷ zs)
filled_more g gs z zs a h =
    let rises = a.rises in
    let gap : pos 0 <ℤ (g.hi -ℤ g.lo) = omega (arith, ints) in
    record {
      extents_are = (λ i. long (g.hi -ℤ g.lo) z gap a.number_is i ∷ h.extents_are i);
      index = (g.lo ∷ h.index.0, both (has_index g g.lo) (has_vector gs h.index.0) (low_in g a.rises) h.index.1);
    }

first_member : (g : Grid1) (gs : List Grid1) (v : List ℤ) → has_vector (g ∷ gs) v ≡ true → (x : ℤ) × ((w : List ℤ) × ((has_index g x ≡ true) × (has_vector gs w ≡ true)))
first_member g gs [] h = absurd (true≢false (sym h))
first_member g gs (x ∷ w) h = let p = both_true (has_index g x) (has_vector gs w) h in (x, (w, p))

pub filled_first : (g : Grid1) (gs : List Grid1) (z : ℤ) (zs : List ℤ) → IsFilled (g ∷ gs) (z ∷ zs) → IsFilledAxis g z
filled_first g gs z zs h =
    let m = first_member g gs h.index.0 h.index.1 in
    let rises = member_rises g m.0 m.1.1.0 in
    let gap : pos 0 <ℤ (g.hi -ℤ g.lo) = omega (arith, ints) in
    record { rises = rises; number_is = length_is (g.hi -ℤ g.lo) z gap (ap (λ zs. get_or zs 0 z) h.extents_are) }

pub filled_rest : (g : Grid1) (gs : List Grid1) (z : ℤ) (zs : List ℤ) → IsFilled (g ∷ gs) (z ∷ zs) → IsFilled gs zs
filled_rest g gs z zs h =
    let m = first_member g gs h.index.0 h.index.1 in
    record { extents_are = ap (drop 1) h.extents_are; index = (m.1.0, m.1.1.1) }

-- as many extents as axes
pub filled_long : (gs : List Grid1) (z : ℤ) (zs : List ℤ) → IsFilled [] (z ∷ zs) → ⊥
filled_long gs z zs h = absurd (cc)
