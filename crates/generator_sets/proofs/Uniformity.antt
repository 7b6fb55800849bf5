-- Pieces whose axes are runs of neighbours that belong to the same generators.
use Rattle.std.proofs.Common.{◌≡◌, ℕ, suc, ◌+◌, ◌<◌, inl, inr, refl, sym, ap, subst, ◌∙◌, List, [], ◌∷◌, ◌++◌, length, drop, get_or, drop-cons, Some, None}
use Rattle.std.specs.Prelude.{ℤ, Bool, true, false, ◌&&◌, cond, position, nat_lt}
use Rattle.std.specs.List.{position_or_len}
use Rattle.std.specs.Prelude.{not}
use Rattle.std.specs.List.{All}
use Rattle.std.specs.Option.{option_to_list}
use Rattle.std.proofs.Math.Bool.{beq}
use Rattle.std.proofs.lemmas.Bool.{and_parts, cases_lt}
use Rattle.std.proofs.lemmas.Option.{slice_get-get_or, slice_get_past}
use Rattle.std.proofs.lemmas.List.{drop_all}
use Rattle.std.proofs.lemmas.List.Elements.{All-nil, All-cons, All-head, All-tail}
use Rattle.sac_base.specs.declared.grid.Grid1.{Grid1}
use Rattle.sac_base.specs.Grids.{has_index, has_vector}
use Rattle.grid_sets.specs.Segments.{alike, IsUniform}
use Rattle.grid_sets.proofs.Likeness.{beq_true}
use Rattle.generator_sets.specs.Pieces.{lows, axis_grids, IsUniformVector}

-- each axis of the piece is even for the generator's axis
abbrev pub AxesUniform : List Grid1 → List Grid1 → Type 0
AxesUniform [] ps = Unit {0}
AxesUniform (g ∷ gs) [] = Unit {0}
AxesUniform (g ∷ gs) (p ∷ ps) = ((x : ℤ) → has_index p x ≡ true → has_index g x ≡ has_index g p.lo) × AxesUniform gs ps

-- the same for each generator's axes from the k-th on
abbrev pub UniformFrom : ℕ → List (List Grid1) → List Grid1 → Type 0
UniformFrom k generators p = All (λ g. AxesUniform (drop k g) p) generators

even_cons : (g p : Grid1) (gs ps : List Grid1) (x : ℤ) (xs los : List ℤ) → has_index g x ≡ has_index g p.lo → has_vector gs xs ≡ has_vector gs los
    → has_vector (g ∷ gs) (x ∷ xs) ≡ has_vector (g ∷ gs) (p.lo ∷ los)
even_cons g p gs ps x xs los e f = ap (λ t. t && has_vector gs xs) e ∙ ap (λ t. has_index g p.lo && t) f

pub even_vector : (gs ps : List Grid1) (v : List ℤ) → AxesUniform gs ps → has_vector ps v ≡ true → has_vector gs v ≡ has_vector gs (lows ps)
even_vector [] [] [] e h = refl
even_vector [] [] (x ∷ xs) e h = absurd (cc)
even_vector [] (p ∷ ps) [] e h = absurd (cc)
even_vector [] (p ∷ ps) (x ∷ xs) e h = refl
even_vector (g ∷ gs) [] [] e h = refl
even_vector (g ∷ gs) [] (x ∷ xs) e h = absurd (cc)
even_vector (g ∷ gs) (p ∷ ps) [] e h = absurd (cc)
even_vector (g ∷ gs) (p ∷ ps) (x ∷ xs) e h =
    let parts = and_parts (has_index p x) (has_vector ps xs) h in
    even_cons g p gs ps x xs (lows ps) (e.0 x parts.0) (even_vector gs ps xs e.1 parts.1)

pub even_all : (generators : List (List Grid1)) (p : List Grid1) → UniformFrom 0 generators p → IsUniformVector generators p
even_all [] p h = All-nil _
even_all (g ∷ gs) p h =
    All-cons (λ g. (v : List ℤ) → has_vector p v ≡ true → has_vector g v ≡ has_vector g (lows p)) g gs
    (λ v at. even_vector g p v (All-head (λ g. AxesUniform (drop 0 g) p) g gs h) at)
    (even_all gs p (All-tail (λ g. AxesUniform (drop 0 g) p) g gs h))

pub column_cons : (k : ℕ) (g : List Grid1) (gs : List (List Grid1)) (d : Grid1) → k < length g → axis_grids k (g ∷ gs) ≡ get_or g k d ∷ axis_grids k gs
column_cons k g gs d low = ap (λ o. option_to_list o ++ axis_grids k gs) (slice_get-get_or g k d low)

-- a run of one axis before a piece that is even for the later axes
pub even_more : (k : ℕ) (generators : List (List Grid1)) (f : Grid1) (r : List Grid1) → IsUniform (axis_grids k generators) f → UniformFrom (suc k) generators r → UniformFrom k generators (f ∷ r)
even_more k [] f r even rest = All-nil _
even_more k (g ∷ gs) f r even rest = elim (cases_lt k (length g)) [
  | inl low ↦
      let column = column_cons k g gs f low in
      let parts : (x : ℤ) → has_index f x ≡ true → (beq (has_index (get_or g k f) f.lo) (has_index (get_or g k f) x) ≡ true) × (alike (axis_grids k gs) f.lo x ≡ true) =
      λ x h. and_parts _ _ (ap (λ l. alike l f.lo x) (sym column) ∙ even x h) in
      let later : AxesUniform (drop (suc k) g) r = All-head (λ g. AxesUniform (drop (suc k) g) r) g gs rest in
      All-cons (λ g. AxesUniform (drop k g) (f ∷ r)) g gs
      (subst (λ l. AxesUniform l (f ∷ r)) (sym (drop-cons g k f low)) ((λ x h. sym (beq_true _ _ (parts x h).0)), later))
      (even_more k gs f r (λ x h. (parts x h).1) (All-tail (λ g. AxesUniform (drop (suc k) g) r) g gs rest))
  | inr past ↦
      let none : axis_grids k (g ∷ gs) ≡ axis_grids k gs = ap (λ o. option_to_list o ++ axis_grids k gs) (slice_get_past g k past) in
      All-cons (λ g. AxesUniform (drop k g) (f ∷ r)) g gs
      (subst (λ l. AxesUniform l (f ∷ r)) (sym (drop_all k g past)) tt)
      (even_more k gs f r (subst (λ l. IsUniform l f) none even) (All-tail (λ g. AxesUniform (drop (suc k) g) r) g gs rest))
]

same_prefix : {X : Type 0} (p q : X → Bool) (xs : List X) → All (λ x. p x ≡ q x) xs → position_or_len p xs ≡ position_or_len q xs
same_prefix p q [] h = refl
same_prefix p q (x ∷ xs) h =
    let here : p x ≡ q x = All-head (λ x. p x ≡ q x) x xs h in
    let later = same_prefix p q xs (All-tail (λ x. p x ≡ q x) x xs h) in
    ap (λ t. cond (not t) (1 + position_or_len p xs) 0) here ∙ ap (λ n. cond (not (q x)) (1 + n) 0) later

-- tests that agree on each element find the same place
pub same_position : {X : Type 0} (p q : X → Bool) (xs : List X) → All (λ x. p x ≡ q x) xs → position p xs ≡ position q xs
same_position p q xs h = ap (λ n. cond (nat_lt n (length xs)) (Some n) None) (same_prefix p q xs h)

other_length_cons : (t b : Bool) → b ≡ false → (t && b) ≡ false
other_length_cons true b e = e
other_length_cons false b e = refl

-- a grid of another number of axes has no first vector of the piece
pub other_length : (gs ps : List Grid1) → (length gs ≡ length ps → ⊥) → has_vector gs (lows ps) ≡ false
other_length [] [] h = absurd (h refl)
other_length [] (p ∷ ps) h = refl
other_length (g ∷ gs) [] h = refl
other_length (g ∷ gs) (p ∷ ps) h = other_length_cons _ _ (other_length gs ps (λ e. h (ap suc e)))
