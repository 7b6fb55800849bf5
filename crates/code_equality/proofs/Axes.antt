-- Axes of the same numbers are the same.
use Rattle.std.proofs.Common.{◌≡◌, ap, subst, ◌∙◌, ℤ, pos, ◌≤ℤ◌}
use Rattle.std.proofs.Math.Dec.{T_prop}
use Rattle.sac_base.specs.declared.grid.Grid1.{Grid1}

one_proof : (a b : ℤ) (p q : a ≤ℤ b) → p ≡ q
one_proof a b p q = λ i. record { le = T_prop _ p.le q.le i }

abbrev made : (lo hi step width : ℤ) → pos 1 ≤ℤ step → pos 1 ≤ℤ width → Grid1
made lo hi step width s w = record { lo = lo; hi = hi; step = step; width = width; steps = s; wide = w }

same_step : (lo hi s t w : ℤ) (x : pos 1 ≤ℤ s) (y : pos 1 ≤ℤ t) (q : pos 1 ≤ℤ w) → s ≡ t → made lo hi s w x q ≡ made lo hi t w y q
same_step lo hi s t w x y q e =
    subst (λ u. (z : pos 1 ≤ℤ u) → made lo hi s w x q ≡ made lo hi u w z q) e (λ z. ap (λ v. made lo hi s w v q) (one_proof (pos 1) s x z)) y

same_width : (lo hi s v w : ℤ) (x : pos 1 ≤ℤ s) (p : pos 1 ≤ℤ v) (q : pos 1 ≤ℤ w) → v ≡ w → made lo hi s v x p ≡ made lo hi s w x q
same_width lo hi s v w x p q e =
    subst (λ u. (z : pos 1 ≤ℤ u) → made lo hi s v x p ≡ made lo hi s u x z) e (λ z. ap (λ y. made lo hi s v x y) (one_proof (pos 1) v p z)) q

pub same_numbers : (g h : Grid1) → g.lo ≡ h.lo → g.hi ≡ h.hi → g.step ≡ h.step → g.width ≡ h.width → g ≡ h
same_numbers g h l u s w =
    (λ i. made (l i) (u i) g.step g.width g.steps g.wide)
    ∙ same_step h.lo h.hi g.step h.step g.width g.steps h.steps g.wide s
    ∙ same_width h.lo h.hi h.step g.width h.width h.steps g.wide h.wide w
