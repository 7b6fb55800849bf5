-- A moved grid lies inside of a frame exactly where its least and its greatest members do.
use Rattle.std.proofs.Common.{◌≡◌, ℕ, ◌<◌, ◌≤◌, ◌%◌, ◌↔◌, Bool, true, false, ◌&&◌, List, [], ◌∷◌, refl, sym, ap, subst, ◌∙◌, arith, inl, inr, ℤ, pos, ◌+ℤ◌, ◌≤ℤ◌, ◌<ℤ◌}
use Rattle.std.specs.Prelude.{IsTrue, ◌-ℤ◌, unsigned_abs, nat_lt}
use Rattle.std.specs.List.{All}
use Rattle.std.proofs.lemmas.Int.{ints}
use Rattle.std.proofs.lemmas.List.Elements.{All-head, All-tail}
use Rattle.sac_base.specs.declared.grid.Grid1.{Grid1}
use Rattle.sac_base.specs.Grids.{has_index, has_vector}
use Rattle.sac_base.proofs.GridFacts.{has_facts}
use Rattle.generator_sets.specs.Pieces.{moved}
use Rattle.grid_spans.specs.Spans.{IsSpan}
use Rattle.grid_spans.specs.moved.Within.{number_at_first, numbers_behind, HasMember, HaveMembers, IsAxisWithin, AreWithin, IsWithin}

pub both : (b c : Bool) → b ≡ true → c ≡ true → (b && c) ≡ true
both b c p q = (λ i. p i && c) ∙ q

parts : (b c : Bool) → (b && c) ≡ true → (b ≡ true) × (c ≡ true)
parts true c h = (refl, h)
parts false c h = absurd (let e : ◌≡◌ {A = Bool} false true = h in cc)

pub never : (b : Bool) → b ≡ true → b ≡ false → ⊥
never b p q = let e : true ≡ false = sym p ∙ q in cc

-- ---- one axis

plus_zero : (x : ℤ) → x +ℤ pos 0 ≡ x
plus_zero x = omega (arith, ints)

moved_none : (v : List ℤ) → moved v [] ≡ v
moved_none [] = refl
moved_none (x ∷ v) = refl

pub by_moved : (x : ℤ) (v cs : List ℤ) → moved (x ∷ v) cs ≡ (x +ℤ number_at_first cs) ∷ moved v (numbers_behind cs)
by_moved x v [] = λ i. sym (plus_zero x) i ∷ sym (moved_none v) i
by_moved x v (c ∷ cs) = refl

bounds : (a : Grid1) (x : ℤ) → has_index a x ≡ true → (a.lo ≤ℤ x) × (x <ℤ a.hi)
bounds a x h = elim (has_facts a x a.wide) [
  | inl y ↦ (y.0, y.1)
  | inr n ↦ absurd (never (has_index a x) h n.1)
]

abbrev phase_in : ℕ → ℕ → ℕ → Bool
phase_in s w n = nat_lt (n % s) w

first_phase : (n w : ℕ) → 0 < w → phase_in 1 w n ≡ true
first_phase n w h = let z : n % 1 ≡ 0 = grind arith in ap (λ k. nat_lt k w) z ∙ grind (arith, Rattle.std.proofs.lemmas.Bool.Decides.nat_tests)

-- all numbers between the bounds
dense : (a : Grid1) (x : ℤ) → a.step ≡ pos 1 → a.lo ≤ℤ x → x <ℤ a.hi → has_index a x ≡ true
dense a x s l h = elim (has_facts a x a.wide) [
  | inl y ↦
      let wide = a.wide in
      let some : 0 < unsigned_abs a.width = omega (arith, ints) in
      y.2 ∙ ap (λ z. phase_in (unsigned_abs z) (unsigned_abs a.width) (unsigned_abs (x -ℤ a.lo))) s ∙ first_phase (unsigned_abs (x -ℤ a.lo)) (unsigned_abs a.width) some
  | inr n ↦ absurd (elim n.0 [ inl k ↦ omega (arith, ints, l, h) | inr k ↦ omega (arith, ints, l, h) ])
]

pub axis_is : (b : Bool) (g f : Grid1) (c least greatest : ℤ) → IsSpan g least greatest → (b ≡ true → (f.lo ≤ℤ (least +ℤ c)) × ((greatest +ℤ c) <ℤ f.hi)) → (f.lo ≤ℤ (least +ℤ c) → (greatest +ℤ c) <ℤ f.hi → b ≡ true)
    → IsTrue b ↔ IsAxisWithin g c f
axis_is b g f c least greatest s there back = (
  λ t x h. let e = there t in let low = s.0.below x h in let high = s.1.above x h in (omega (arith, ints, e.0, low), omega (arith, ints, e.1, high)),
  λ h. back (h least s.0.member).0 (h greatest s.1.member).1,
)

-- ---- all axes

abbrev IsDense : Grid1 → Type 0
IsDense axis = axis.step ≡ pos 1

all_in : (gs fs : List Grid1) (cs : List ℤ) → All IsDense fs → AreWithin gs cs fs → IsWithin gs cs fs
all_in [] [] cs d b [] h = refl
all_in [] [] cs d b (x ∷ v) h = absurd (never false h refl)
all_in [] (f ∷ fs) cs d b v h = absurd b
all_in (g ∷ gs) [] cs d b v h = absurd b
all_in (g ∷ gs) (f ∷ fs) cs d b [] h = absurd (never false h refl)
all_in (g ∷ gs) (f ∷ fs) cs d b (x ∷ v) h =
    let w = parts (has_index g x) (has_vector gs v) h in
    let at = b.0 x w.0 in
    ap (has_vector (f ∷ fs)) (by_moved x v cs)
    ∙ both (has_index f (x +ℤ number_at_first cs)) (has_vector fs (moved v (numbers_behind cs))) (dense f (x +ℤ number_at_first cs) (All-head IsDense f fs d) at.0 at.1)
    (all_in gs fs (numbers_behind cs) (All-tail IsDense f fs d) b.1 v w.1)

pub some_vector : (gs : List Grid1) → HaveMembers gs → (v : List ℤ) × (has_vector gs v ≡ true)
some_vector [] m = ([], refl)
some_vector (g ∷ gs) m = let s = some_vector gs m.1 in (m.0.0 ∷ s.0, both (has_index g m.0.0) (has_vector gs s.0) m.0.1 s.1)

from_all : (gs fs : List Grid1) (cs : List ℤ) → HaveMembers gs → IsWithin gs cs fs → AreWithin gs cs fs
from_all [] [] cs m all = tt
from_all [] (f ∷ fs) cs m all = never false (all [] refl) refl
from_all (g ∷ gs) [] cs m all =
    let t = some_vector gs m.1 in
    never false (sym (ap (has_vector []) (by_moved m.0.0 t.0 cs)) ∙ all (m.0.0 ∷ t.0) (both (has_index g m.0.0) (has_vector gs t.0) m.0.1 t.1)) refl
from_all (g ∷ gs) (f ∷ fs) cs m all =
    (λ x h. let s = some_vector gs m.1 in bounds f (x +ℤ number_at_first cs) (at x s.0 h s.1).0, from_all gs fs (numbers_behind cs) m.1 (λ v h. (at m.0.0 v m.0.1 h).1))
  where
    at : (x : ℤ) (v : List ℤ) → has_index g x ≡ true → has_vector gs v ≡ true → (has_index f (x +ℤ number_at_first cs) ≡ true) × (has_vector fs (moved v (numbers_behind cs)) ≡ true)
    at x v h k =
        parts (has_index f (x +ℤ number_at_first cs)) (has_vector fs (moved v (numbers_behind cs)))
        (sym (ap (has_vector (f ∷ fs)) (by_moved x v cs)) ∙ all (x ∷ v) (both (has_index g x) (has_vector gs v) h k))

pub within_is : (b : Bool) (g f : List Grid1) (cs : List ℤ) → All IsDense f → HaveMembers g → (IsTrue b ↔ AreWithin g cs f) → IsTrue b ↔ IsWithin g cs f
within_is b g f cs d m e = (λ t. all_in g f cs d (e.0 t), λ h. e.1 (from_all g f cs m h))

pub nowhere_is : (g f : List Grid1) (cs : List ℤ) → ((v : List ℤ) → has_vector g v ≡ false) → IsTrue true ↔ IsWithin g cs f
nowhere_is g f cs h = (λ t v k. absurd (never (has_vector g v) k (h v)), λ w. refl)
