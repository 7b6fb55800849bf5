-- The slots of variables after one has changed.
use Rattle.std.proofs.Common.{◌≡◌, ℕ, zero, suc, ◌+◌, ◌-◌, ◌<◌, ◌≤◌, Bool, true, false, cond, eqb, List, [], ◌∷◌, ◌++◌, length, take, replicate, reverse, refl, ap, ◌∙◌, sym, subst, slice_set, arith}
use Rattle.std.specs.Prelude.{slice_index_or, drop}
use Rattle.std.proofs.lemmas.Bool.{eqb-true, eq-eqb, le-ltb, true≢false}
use Rattle.std.proofs.lemmas.List.{get_or-set_same, get_or-set_other, get_or-drop, length-drop, reverse-append}
use Rattle.core_ir.specs.declared.tree.Var.{Var}
use Rattle.counted_code.specs.Machine.{no_values, bind_value}
use Rattle.run_values.specs.declared.frames.Undo.{Undo}
use Rattle.run_values.specs.declared.frames.Undo.TheVariants.{Bound}
use Rattle.run_values.specs.declared.value.RunValue.{RunValue}
use Rattle.run_values.specs.declared.value.RunValue.TheVariants.{Unbound}
use Rattle.run_values.specs.Scopes.{slots_of, without, seen, around}
use Rattle.run_values.specs.Shown.{value_of}

nothing_in : (k i : ℕ) → slice_index_or (replicate k Unbound) i Unbound ≡ Unbound
nothing_in zero i = refl
nothing_in (suc k) zero = refl
nothing_in (suc k) (suc i) = nothing_in k i

extended : (xs : List RunValue) (k i : ℕ) → slots_of (xs ++ replicate k Unbound) i ≡ slots_of xs i
extended [] k i = nothing_in k i
extended (x ∷ xs) k zero = refl
extended (x ∷ xs) k (suc i) = extended xs k i

none_below : {n : ℕ} → suc n ≤ 0 → ⊥
none_below le = omega (arith, le)

pub take_whole : (xs : List RunValue) (n : ℕ) → length xs ≤ n → take n xs ≡ xs
take_whole [] zero le = refl
take_whole [] (suc n) le = refl
take_whole (x ∷ xs) zero le = elim (none_below le) [ ]
take_whole (x ∷ xs) (suc n) le = ap (λ ys. x ∷ ys) (take_whole xs n (omega (arith, le)))

-- further slots with nothing bound
pub grown : (xs : List RunValue) (n k : ℕ) → length xs ≤ n → slots_of (take n xs ++ replicate k Unbound) ≡ slots_of xs
grown xs n k le = ap (λ ys. slots_of (ys ++ replicate k Unbound)) (take_whole xs n le) ∙ (λ j i. extended xs k i j)

pub set_at : (xs : List RunValue) (k i : ℕ) (v : RunValue) → k < length xs → slots_of (slice_set xs k v) i ≡ cond (eqb k i) v (slots_of xs i)
set_at xs k i v there = go (eqb k i) refl
  where
    go : (same : Bool) → eqb k i ≡ same → slots_of (slice_set xs k v) i ≡ cond same v (slots_of xs i)
    go true e = subst (λ j. slots_of (slice_set xs k v) j ≡ v) (eqb-true k i e) (get_or-set_same xs k v Unbound there)
    go false e = get_or-set_other xs k i v Unbound (λ is. true≢false (sym (eq-eqb k i (sym is)) ∙ e))

-- a slot that is bound and then free again is as before, if it was free
freed : (xs : List RunValue) (k i : ℕ) (v : RunValue) → k < length xs → slots_of xs k ≡ Unbound → without k (slots_of (slice_set xs k v)) i ≡ slots_of xs i
freed xs k i v there free = go (eqb k i) refl
  where
    go : (same : Bool) → eqb k i ≡ same → cond same Unbound (slots_of (slice_set xs k v) i) ≡ slots_of xs i
    go true e = sym free ∙ ap (slots_of xs) (eqb-true k i e)
    go false e = set_at xs k i v there ∙ ap (λ t. cond t v (slots_of xs i)) e

-- one variable more is bound
pub bound_seen : (xs ys : List RunValue) (k base : ℕ) (x : Var) (v : RunValue) → k ≡ base + x.0 → k < length xs → slots_of xs ≡ slots_of ys → seen (slots_of (slice_set xs k v)) base ≡ bind_value (seen (slots_of ys) base) x (value_of v)
bound_seen xs ys k base x v is there same = (λ j y. at y j) ∙ ap (λ s. bind_value (seen s base) x (value_of v)) same
  where
    places : (y : Var) (t : Bool) → eqb x.0 y.0 ≡ t → eqb k (base + y.0) ≡ t
    places y true e = eq-eqb k (base + y.0) (omega (arith, is, eqb-true x.0 y.0 e))
    places y false e = go (eqb k (base + y.0)) refl
      where
        go : (t : Bool) → eqb k (base + y.0) ≡ t → t ≡ false
        go false f = refl
        go true f = elim (true≢false (sym (eq-eqb x.0 y.0 (omega (arith, is, eqb-true k (base + y.0) f))) ∙ e)) [ ]

    chosen : (t : Bool) (w : RunValue) → value_of (cond t v w) ≡ cond t (value_of v) (value_of w)
    chosen true w = refl
    chosen false w = refl

    at : (y : Var) → seen (slots_of (slice_set xs k v)) base y ≡ bind_value (seen (slots_of xs) base) x (value_of v) y
    at y =
        ap value_of (set_at xs k (base + y.0) v there ∙ ap (λ t. cond t v (slots_of xs (base + y.0))) (places y (eqb x.0 y.0) refl))
        ∙ chosen (eqb x.0 y.0) (slots_of xs (base + y.0))

-- and the scopes around are as before
pub bound_around : (xs ys : List RunValue) (us ts : List Undo) (n k base : ℕ) (v : RunValue) → k < length xs → slots_of xs k ≡ Unbound → slots_of xs ≡ slots_of ys → us ≡ ts ++ Bound k ∷ [] → n ≤ k → around n (reverse us) (slots_of (slice_set xs k v)) base ≡ around n (reverse ts) (slots_of ys) base
bound_around xs ys us ts n k base v there free same is le =
    ap (λ ws. around n ws (slots_of (slice_set xs k v)) base) (ap reverse is ∙ reverse-append ts (Bound k ∷ []))
    ∙ ap (λ t. around n (reverse ts) (cond t (slots_of (slice_set xs k v)) (without k (slots_of (slice_set xs k v)))) base) (le-ltb k n le)
    ∙ ap (λ s. around n (reverse ts) s base) ((λ j i. freed xs k i v there free j) ∙ same)

-- the slots from one on, as slots of their own
pub copied : (xs ys : List RunValue) (base : ℕ) → ys ≡ drop base xs → seen (slots_of ys) 0 ≡ seen (slots_of xs) base
copied xs ys base is = λ j x. value_of (at x j)
  where
    first : (n : ℕ) → 0 + n ≡ n
    first n = omega arith

    at : (x : Var) → slots_of ys (0 + x.0) ≡ slots_of xs (base + x.0)
    at x = ap (slots_of ys) (first x.0) ∙ ap (λ zs. slots_of zs x.0) is ∙ get_or-drop base xs x.0 Unbound

-- what is left behind a place, taken whole
pub rest_taken : (xs : List RunValue) (base : ℕ) → take (length xs - base) (drop base xs) ≡ drop base xs
rest_taken xs base = take_whole (drop base xs) (length xs - base) (let n = length-drop base xs in omega (arith, n))

-- beyond the last slot nothing is bound
pub none_copied : (xs : List RunValue) (base : ℕ) → length xs ≤ base → no_values ≡ seen (slots_of xs) base
none_copied xs base le = λ j x. value_of (at x j)
  where
    past : (ys : List RunValue) (n : ℕ) → length ys ≤ n → Unbound ≡ slots_of ys n
    past [] n p = refl
    past (y ∷ ys) zero p = elim (none_below p) [ ]
    past (y ∷ ys) (suc n) p = past ys n (omega (arith, p))

    at : (x : Var) → Unbound ≡ slots_of xs (base + x.0)
    at x = past xs (base + x.0) (omega (arith, le))
