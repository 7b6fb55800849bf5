-- Dense frames, and grids that lie inside.
use Rattle.std.proofs.Common.{◌≡◌, ◌↔◌, IsTrue, ℕ, ◌<◌, ◌&&◌, Bool, true, false, cond, List, [], ◌∷◌, length, get_or, refl, sym, ap, subst, ◌∙◌, arith, ℤ, pos}
use Rattle.std.specs.Prelude.{filter, Vec}
use Rattle.std.specs.Ordering.{int_eq}
use Rattle.std.specs.List.{All, list_all}
use Rattle.std.specs.declared.alloc.Global.{Global}
use Rattle.std.proofs.lemmas.Int.{ints}
use Rattle.std.proofs.lemmas.List.Elements.{All-nil, All-cons, All-head, All-tail}
use Rattle.sac_base.specs.declared.grid.Grid1.{Grid1}
use Rattle.sac_base.specs.Grids.{has_vector, members}
use Rattle.core_loops.proofs.index_facts.Members.{member_has}
use Rattle.generator_sets.specs.Pieces.{moved}
use Rattle.grid_spans.specs.moved.Within.{IsWithin}
use Rattle.fold_pieces.specs.Pieces.{vectors}
use Rattle.fold_pieces.specs.Cuts.{IsDense, IsInside, have_step_one}

-- ---- dense frames

both : (b c : Bool) → b ≡ true → c ≡ true → (b && c) ≡ true
both b c p q = (λ i. p i && c) ∙ q

parts : (b c : Bool) → (b && c) ≡ true → (b ≡ true) × (c ≡ true)
parts true c h = (refl, h)
parts false c h = absurd (let e : ◌≡◌ {A = Bool} false true = h in cc)

one_is : (x : ℤ) → int_eq x (pos 1) ≡ true → x ≡ pos 1
one_is x h = first_of (grind (arith, ints))

is_one : (x : ℤ) → x ≡ pos 1 → int_eq x (pos 1) ≡ true
is_one x h = ap (λ y. int_eq y (pos 1)) h

abbrev Step : Grid1 → Type 0
Step axis = axis.step ≡ pos 1

dense_in : (axes : List Grid1) → have_step_one axes ≡ true → IsDense axes
dense_in [] h = All-nil Step
dense_in (a ∷ axes) h = let w = parts (int_eq a.step (pos 1)) (have_step_one axes) h in All-cons Step a axes (one_is a.step w.0) (dense_in axes w.1)

dense_out : (axes : List Grid1) → IsDense axes → have_step_one axes ≡ true
dense_out [] h = refl
dense_out (a ∷ axes) h = both (int_eq a.step (pos 1)) (have_step_one axes) (is_one a.step (All-head Step a axes h)) (dense_out axes (All-tail Step a axes h))

pub dense_is : (axes : List Grid1) (b : Bool) → b ≡ have_step_one axes → IsTrue b ↔ IsDense axes
dense_is axes b e = (λ t. dense_in axes (sym e ∙ t), λ h. e ∙ dense_out axes h)

-- ---- one vector

abbrev pub Here : List Grid1 → List Grid1 → List ℤ → Type 0
Here frame grid c = list_all (λ v. has_vector frame (moved v c)) (members grid) ≡ true

abbrev pub IsIn : List Grid1 → List Grid1 → Vec ℤ Global → Type 0
IsIn frame grid offset = Here frame grid offset.items

kept_all : (p q : List ℤ → Bool) (vs : List (List ℤ)) → ((v : List ℤ) → q v ≡ true → p v ≡ true) → list_all p (filter q vs) ≡ true
kept_all p q [] h = refl
kept_all p q (v ∷ vs) h = go (q v) (h v) (kept_all p q vs h)
  where
    go : (b : Bool) → (b ≡ true → p v ≡ true) → list_all p (filter q vs) ≡ true → list_all p (cond b (v ∷ filter q vs) (filter q vs)) ≡ true
    go true f rest = (λ i. f refl i && list_all p (filter q vs)) ∙ rest
    go false f rest = rest

pub here_in : (frame grid : List Grid1) (x : Vec ℤ Global) → IsWithin grid x.items frame → IsIn frame grid x
here_in frame grid x h = kept_all (λ v. has_vector frame (moved v x.items)) (has_vector grid) _ h

pub here_out : (frame grid : List Grid1) (x : Vec ℤ Global) → IsIn frame grid x → IsWithin grid x.items frame
here_out frame grid x h v k = member_has (λ v. has_vector frame (moved v x.items)) grid v h k

-- ---- the vector at a place

mapped_at : (P : List ℤ → Type 0) (offsets : List (Vec ℤ Global)) → All P (vectors offsets) → All (λ (x : Vec ℤ Global). P x.items) offsets
mapped_at P [] h = All-nil (λ (x : Vec ℤ Global). P x.items)
mapped_at P (x ∷ xs) h = All-cons (λ (x : Vec ℤ Global). P x.items) x xs (All-head P x.items (vectors xs) h) (mapped_at P xs (All-tail P x.items (vectors xs) h))

pub at_place : (frame grid : List Grid1) (offsets : List (Vec ℤ Global)) (i : ℕ) (x : Vec ℤ Global) → IsInside frame grid (vectors offsets) → i < length offsets → x ≡ get_or offsets i x
    → IsIn frame grid x
at_place frame grid offsets i x h low is = subst (IsIn frame grid) (sym is) (mapped_at (Here frame grid) offsets h i x low)
