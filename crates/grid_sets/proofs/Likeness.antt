-- Numbers that belong to the same grids.
use Rattle.std.proofs.Common.{◌≡◌, ◌⊎◌, inl, inr, ℕ, ◌+◌, ◌<◌, arith, refl, sym, ap, subst, ◌∙◌, List, [], ◌∷◌, length, get_or, take}
use Rattle.std.specs.Prelude.{ℤ, ◌≤ℤ◌, ◌<ℤ◌, Bool, true, false, not, ◌&&◌, slice_index_or}
use Rattle.std.specs.List.{All}
use Rattle.std.proofs.Math.Bool.{beq}
use Rattle.std.proofs.lemmas.Bool.{and_parts}
use Rattle.std.proofs.lemmas.List.Elements.{All-head, All-tail}
use Rattle.std.proofs.lemmas.List.Folds.{list_all_at, list_all_more, list_all_kept}
use Rattle.sac_base.specs.declared.grid.Grid1.{Grid1}
use Rattle.sac_base.specs.Grids.{has_index, within}
use Rattle.sac_base.proofs.GridFacts.{within_is}
use Rattle.std.proofs.lemmas.Int.{ints}
use Rattle.grid_sets.specs.Segments.{alike, IsUniform}

pub beq_same : (s t : Bool) → s ≡ t → beq s t ≡ true
beq_same true true e = refl
beq_same false false e = refl
beq_same true false e = sym e
beq_same false true e = e

pub beq_true : (s t : Bool) → beq s t ≡ true → s ≡ t
beq_true true true e = refl
beq_true false false e = refl
beq_true true false e = sym e
beq_true false true e = e

pub beq_other : (s t : Bool) → t ≡ not s → beq s t ≡ false
beq_other true true e = e
beq_other false false e = sym e
beq_other true false e = refl
beq_other false true e = refl

both_true : (s t : Bool) → s ≡ true → t ≡ true → (s && t) ≡ true
both_true s t e f = rw (e, f)

-- alike with y, and hence with x where each grid has both or neither
pub alike_from : (grids : List Grid1) (a y x : ℤ) → alike grids a y ≡ true → All (λ g. has_index g x ≡ has_index g y) grids → alike grids a x ≡ true
alike_from [] a y x h e = refl
alike_from (g ∷ gs) a y x h e =
    let parts = and_parts (beq (has_index g a) (has_index g y)) (alike gs a y) h in
    let here : has_index g x ≡ has_index g y = All-head (λ g. has_index g x ≡ has_index g y) g gs e in
    both_true _ _ (beq_same (has_index g a) (has_index g x) (beq_true _ _ parts.0 ∙ sym here))
    (alike_from gs a y x parts.1 (All-tail (λ g. has_index g x ≡ has_index g y) g gs e))

false_not_true : {A : Type 0} → true ≡ false → A
false_not_true e = absurd (cc)

not_true : (t : Bool) → (t ≡ false → t ≡ true) → t ≡ true
not_true true f = refl
not_true false f = f refl

-- each grid of the list
pub alike_at : (grids : List Grid1) (x y : ℤ) (k : ℕ) (d : Grid1) → alike grids x y ≡ true → k < length grids
    → has_index (slice_index_or grids k d) x ≡ has_index (slice_index_or grids k d) y
alike_at grids x y k d h l = beq_true _ _ (not_true _ (λ off. false_not_true (sym h ∙ list_all_at (λ g. beq (has_index g x) (has_index g y)) grids k d l off)))

pub even_at : (grids : List Grid1) (p : Grid1) (x : ℤ) (k : ℕ) (d : Grid1) → IsUniform grids p → has_index p x ≡ true → k < length grids
    → has_index (slice_index_or grids k d) p.lo ≡ has_index (slice_index_or grids k d) x
even_at grids p x k d even h l = alike_at grids p.lo x k d (even x h) l

pub alike_trans : (grids : List Grid1) (x y z : ℤ) → alike grids x y ≡ true → alike grids y z ≡ true → alike grids x z ≡ true
alike_trans [] x y z h k = refl
alike_trans (g ∷ gs) x y z h k =
    let a = and_parts (beq (has_index g x) (has_index g y)) (alike gs x y) h in
    let b = and_parts (beq (has_index g y) (has_index g z)) (alike gs y z) k in
    both_true _ _ (beq_same _ _ (beq_true _ _ a.0 ∙ beq_true _ _ b.0)) (alike_trans gs x y z a.1 b.1)

pub alike_back : (grids : List Grid1) (x y : ℤ) → alike grids x y ≡ true → alike grids y x ≡ true
alike_back [] x y h = refl
alike_back (g ∷ gs) x y h =
    let a = and_parts (beq (has_index g x) (has_index g y)) (alike gs x y) h in
    both_true _ _ (beq_same _ _ (sym (beq_true _ _ a.0))) (alike_back gs x y a.1)

into_false : (t : Bool) → (t ≡ true → true ≡ false) → t ≡ false
into_false true f = f refl
into_false false f = refl

-- numbers alike up to a change are no longer alike across it
pub alike_across : (grids : List Grid1) (a x y : ℤ) → alike grids a x ≡ true → alike grids a y ≡ false → alike grids x y ≡ false
alike_across grids a x y h k = into_false _ (λ on. sym (alike_trans grids a x y h on) ∙ k)

shorter : (f t u x : ℤ) → u ≤ℤ t → within f u x ≡ true → within f t x ≡ true
shorter f t u x h at = elim (within_is f u x) [
  | inr off ↦ false_not_true (sym at ∙ off.1)
  | inl here ↦ elim (within_is f t x) [
    | inl there ↦ there.2
    | inr off ↦ absurd (elim off.0 [ inl a ↦ omega (arith, ints) | inr b ↦ omega (arith, ints) ])
  ]
]

test_at : (grids : List Grid1) (i : ℕ) (g : Grid1) (x y : ℤ) → g ≡ get_or grids i g → beq (has_index (get_or grids i g) x) (has_index (get_or grids i g) y) ≡ beq (has_index g x) (has_index g y)
test_at grids i g x y is = ap (λ h. beq (has_index h x) (has_index h y)) (sym is)

-- one more grid shortens the run
pub run_same : (grids : List Grid1) (i : ℕ) (g : Grid1) (from f t u : ℤ) → g ≡ get_or grids i g → i < length grids → f ≡ from → u ≤ℤ t
    → ((x : ℤ) → within from t x ≡ true → alike (take i grids) from x ≡ true)
    → ((x : ℤ) → within f u x ≡ true → has_index g x ≡ has_index g f)
    → (x : ℤ) → within from u x ≡ true → alike (take (i + 1) grids) from x ≡ true
run_same grids i g from f t u is low e h before here x at =
    list_all_more (λ g. beq (has_index g from) (has_index g x)) grids i g low
    ∙ both_true _ _ (before x (shorter from t u x h at))
    (test_at grids i g from x is ∙ beq_same _ _ (sym (subst (λ z. within z u x ≡ true → has_index g x ≡ has_index g z) e (here x) at)))

kept_false : (s t : Bool) → t ≡ false → (s && t) ≡ false
kept_false true t e = e
kept_false false t e = refl

pub run_change : (grids : List Grid1) (i : ℕ) (g : Grid1) (from to f t u : ℤ) → g ≡ get_or grids i g → i < length grids → f ≡ from → u ≤ℤ t → t ≤ℤ to
    → (t <ℤ to → alike (take i grids) from t ≡ false) → (u ≡ t) ⊎ (has_index g u ≡ not (has_index g f))
    → u <ℤ to → alike (take (i + 1) grids) from u ≡ false
run_change grids i g from to f t u is low e h k before (inl same) less =
    list_all_kept (λ g. beq (has_index g from) (has_index g u)) grids i
    (ap (alike (take i grids) from) same ∙ before (omega (arith, ints)))
run_change grids i g from to f t u is low e h k before (inr other) less =
    list_all_more (λ g. beq (has_index g from) (has_index g u)) grids i g low
    ∙ kept_false _ _ (test_at grids i g from u is ∙ beq_other _ _ (other ∙ ap (λ z. not (has_index g z)) e))
