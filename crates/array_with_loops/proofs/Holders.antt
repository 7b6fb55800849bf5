-- The first generator whose range holds an index.
use Rattle.std.proofs.Common.{◌≡◌, ℕ, suc, min, ⊎_elim, ◌+◌, ◌<◌, ◌≤◌, List, [], ◌∷◌, length, get_or, drop, map, true, false, refl, ap, ◌∙◌, arith, Some, None}
use Rattle.std.specs.Prelude.{ℤ}
use Rattle.std.proofs.Math.Seq.{drop-cons}
use Rattle.std.proofs.lemmas.Bool.{cases_lt}
use Rattle.std.proofs.lemmas.List.{drop_all}
use Rattle.sac_base.specs.WithLoops.{Generator, Range, holder, holds}

module _ {G : Type 0} (g : G → Generator) (gs : List G) (rs : List Range) (v : List ℤ) where
  holder_at : (i : ℕ) (d : G) (e : Range) → i < length gs → i < length rs → holder (map g (drop i gs)) (drop i rs) v ≡ holder (g (get_or gs i d) ∷ map g (drop (i + 1) gs)) (get_or rs i e ∷ drop (i + 1) rs) v
  holder_at i d e h k =
      let next : suc i ≡ i + 1 = omega arith in
      ap (λ xs. holder (map g xs) (drop i rs) v) (drop-cons gs i d h)
      ∙ ap (λ ys. holder (g (get_or gs i d) ∷ map g (drop (suc i) gs)) ys v) (drop-cons rs i e k)
      ∙ ap (λ n. holder (g (get_or gs i d) ∷ map g (drop n gs)) (get_or rs i e ∷ drop n rs) v) next

  pub holder_here : (i : ℕ) (d : G) (e : Range) → i < length gs → i < length rs → holds (get_or rs i e) v ≡ true → holder (map g (drop i gs)) (drop i rs) v ≡ Some (g (get_or gs i d))
  holder_here i d e h k yes' = holder_at i d e h k ∙ rw yes' refl

  pub holder_next : (i : ℕ) (d : G) (e : Range) → i < length gs → i < length rs → holds (get_or rs i e) v ≡ false → holder (map g (drop i gs)) (drop i rs) v ≡ holder (map g (drop (i + 1) gs)) (drop (i + 1) rs) v
  holder_next i d e h k no' = holder_at i d e h k ∙ rw no' refl

pub holder_goes_on : {G : Type 0} (g : G → Generator) (gs : List G) (rs : List Range) (v : List ℤ) (i : ℕ) (e : Range) → i < length gs → i < length rs → holds (get_or rs i e) v ≡ false → holder (map g (drop i gs)) (drop i rs) v ≡ holder (map g (drop (i + 1) gs)) (drop (i + 1) rs) v
holder_goes_on g [] rs v i e h k o = absurd (omega arith)
holder_goes_on g (x ∷ xs) rs v i e h k o = holder_next g (x ∷ xs) rs v i x e h k o

no_generator : (rs : List Range) (v : List ℤ) → holder [] rs v ≡ None
no_generator [] v = refl
no_generator (r ∷ rs) v = refl

no_range : (gs : List Generator) (v : List ℤ) → holder gs [] v ≡ None
no_range [] v = refl
no_range (g ∷ gs) v = refl

pub holder_ends : {G : Type 0} (g : G → Generator) (gs : List G) (rs : List Range) (v : List ℤ) (i : ℕ) → min (length gs) (length rs) ≤ i → holder (map g (drop i gs)) (drop i rs) v ≡ None
holder_ends g gs rs v i h = ⊎_elim first second (cases_lt (length gs) (length rs))
  where
    first : length gs < length rs → holder (map g (drop i gs)) (drop i rs) v ≡ None
    first le = ap (λ xs. holder (map g xs) (drop i rs) v) (drop_all i gs (omega arith)) ∙ no_generator (drop i rs) v

    second : length rs ≤ length gs → holder (map g (drop i gs)) (drop i rs) v ≡ None
    second le = ap (λ ys. holder (map g (drop i gs)) ys v) (drop_all i rs (omega arith)) ∙ no_range (map g (drop i gs)) v
