-- The entries in slots after one has changed.
use Rattle.std.proofs.Common.{◌≡◌, ℕ, zero, suc, ◌+◌, ◌-◌, ◌<◌, ◌≤◌, Bool, true, false, cond, eqb, List, [], ◌∷◌, ◌++◌, length, replicate, Option, None, refl, sym, ap, ◌∙◌, arith}
use Rattle.std.specs.Prelude.{slice_index_or, slice_set}
use Rattle.std.proofs.lemmas.Bool.{eqb-true, eqb-false}
use Rattle.std.proofs.lemmas.Grind.{get_or-set_at}
use Rattle.std.proofs.lemmas.List.{get_or-set_other}
use Rattle.core_ir.specs.declared.tree.Var.{Var}
use Rattle.fact_table.specs.scoped_table.Slots.{entries, with_entry}

module _ {T : Type 0} where
  -- one slot more, without an entry
  grown : (xs : List (Option T)) (i : ℕ) → slice_index_or (xs ++ None ∷ []) i None ≡ slice_index_or xs i None
  grown [] zero = refl
  grown [] (suc i) = refl
  grown (y ∷ ys) zero = refl
  grown (y ∷ ys) (suc i) = grown ys i

  grown_behind : (f : ℕ) (xs : List (Option T)) (i : ℕ) → slice_index_or (replicate f None ++ (xs ++ None ∷ [])) i None ≡ slice_index_or (replicate f None ++ xs) i None
  grown_behind zero xs i = grown xs i
  grown_behind (suc f) xs zero = refl
  grown_behind (suc f) xs (suc i) = grown_behind f xs i

  pub last_grown : (f : ℕ) (xs : List (Option T)) → entries (replicate f None ++ (xs ++ None ∷ [])) ≡ entries (replicate f None ++ xs)
  last_grown f xs = λ j x. grown_behind f xs x.0 j

  grown_before : (f : ℕ) (xs : List (Option T)) (i : ℕ) → slice_index_or (replicate f None ++ None ∷ xs) i None ≡ slice_index_or (None ∷ (replicate f None ++ xs)) i None
  grown_before zero xs i = refl
  grown_before (suc f) xs zero = refl
  grown_before (suc f) xs (suc i) = grown_before f xs i

  -- the first slot is made one variable earlier
  pub first_grown : (f g : ℕ) (xs : List (Option T)) → g ≡ suc f → entries (replicate f None ++ None ∷ xs) ≡ entries (replicate g None ++ xs)
  first_grown f g xs is = (λ j x. grown_before f xs x.0 j) ∙ ap (λ n. entries (replicate n None ++ xs)) (sym is)

  none_blank : (f i : ℕ) → slice_index_or {A = Option T} (replicate f None ++ []) i None ≡ None
  none_blank zero i = refl
  none_blank (suc f) zero = refl
  none_blank (suc f) (suc i) = none_blank f i

  -- without slots it does not matter where they would begin
  pub moved : (f g : ℕ) (xs : List (Option T)) → xs ≡ [] → entries (replicate f None ++ xs) ≡ entries (replicate g None ++ xs)
  moved f g xs is = ap (λ ys. entries (replicate f None ++ ys)) is ∙ (λ j x. (none_blank f x.0 ∙ sym (none_blank g x.0)) j) ∙ ap (λ ys. entries (replicate g None ++ ys)) (sym is)

  -- a variable before the first slot has no entry
  pub before : (f : ℕ) (xs : List (Option T)) (i : ℕ) → i < f → slice_index_or (replicate f None ++ xs) i None ≡ None
  before zero xs i less = elim (none_less i less) [ ]
    where
      none_less : (n : ℕ) → n < 0 → ⊥
      none_less n l = omega (arith, l)
  before (suc f) xs zero less = refl
  before (suc f) xs (suc i) less = before f xs i (omega (arith, less))

  -- one that is not has that of its slot
  pub behind : (f : ℕ) (xs : List (Option T)) (i : ℕ) → f ≤ i → slice_index_or (replicate f None ++ xs) i None ≡ slice_index_or xs (i - f) None
  behind zero xs i le = ap (λ n. slice_index_or xs n None) (let e : i ≡ i - 0 = omega arith in e)
  behind (suc f) xs zero le = elim (no_less f le) [ ]
    where
      no_less : (n : ℕ) → suc n ≤ 0 → ⊥
      no_less n l = omega (arith, l)
  behind (suc f) xs (suc i) le = behind f xs i (omega (arith, le)) ∙ ap (λ n. slice_index_or xs n None) (let e : i - f ≡ suc i - suc f = omega arith in e)

  put_here : (f : ℕ) (xs : List (Option T)) (i : ℕ) (o : Option T) (k : ℕ) → k ≡ f + i → i < length xs → slice_index_or (replicate f None ++ slice_set xs i o) k None ≡ o
  put_here zero xs i o k e less = get_or-set_at xs i k o None (omega (arith, e)) less
  put_here (suc f) xs i o zero e less = elim (no_sum f i e) [ ]
    where
      no_sum : (m n : ℕ) → 0 ≡ suc m + n → ⊥
      no_sum m n q = omega (arith, q)
  put_here (suc f) xs i o (suc k) e less = put_here f xs i o k (omega (arith, e)) less

  put_elsewhere : (f : ℕ) (xs : List (Option T)) (i : ℕ) (o : Option T) (k : ℕ) → (k ≡ f + i → ⊥)
      → slice_index_or (replicate f None ++ slice_set xs i o) k None ≡ slice_index_or (replicate f None ++ xs) k None
  put_elsewhere zero xs i o k ne = get_or-set_other xs i k o None (λ e. ne (let q : k ≡ 0 + i = omega (arith, e) in q))
  put_elsewhere (suc f) xs i o zero ne = refl
  put_elsewhere (suc f) xs i o (suc k) ne = put_elsewhere f xs i o k (λ e. ne (let q : suc k ≡ suc f + i = omega (arith, e) in q))

  -- an entry is put into the slot of a variable
  pub put : (f : ℕ) (xs : List (Option T)) (x : Var) (o : Option T) → f ≤ x.0 → x.0 < f + length xs
      → entries (replicate f None ++ slice_set xs (x.0 - f) o) ≡ with_entry (entries (replicate f None ++ xs)) x o
  put f xs x o low high = λ j y. at y (eqb x.0 y.0) refl j
    where
      sum : f + (x.0 - f) ≡ x.0
      sum = omega (arith, low)

      at : (y : Var) (same : Bool) → eqb x.0 y.0 ≡ same
          → slice_index_or (replicate f None ++ slice_set xs (x.0 - f) o) y.0 None ≡ cond same o (slice_index_or (replicate f None ++ xs) y.0 None)
      at y true e = put_here f xs (x.0 - f) o y.0 (let q = eqb-true x.0 y.0 e in omega (arith, q, sum)) (omega (arith, low, high))
      at y false e = put_elsewhere f xs (x.0 - f) o y.0 (λ k. eqb-false x.0 y.0 e (omega (arith, k, sum)))

  pub longer : (xs : List (Option T)) (v : Option T) → length (xs ++ v ∷ []) ≡ length xs + 1
  longer [] v = refl
  longer (x ∷ xs) v = let more = longer xs v in omega (arith, more)
