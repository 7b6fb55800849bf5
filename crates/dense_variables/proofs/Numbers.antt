-- New numbers keep variables apart.
use Rattle.std.proofs.Common.{◌≡◌, ℕ, suc, ◌<◌, ◌≤◌, Bool, true, false, ◌||◌, cond, eqb, List, [], ◌∷◌, ◌++◌, map, refl, sym, ap, subst, ◌∙◌, ◌⊎◌, inl, inr, arith}
use Rattle.std.specs.Prelude.{max}
use Rattle.std.proofs.lemmas.Bool.{eqb-true, eq-eqb}
use Rattle.core_ir.specs.declared.tree.Var.{Var}
use Rattle.core_ir.specs.Binders.{is_in}
use Rattle.core_ir.specs.WellFormed.{Distinct}
use Rattle.core_ir.proofs.Variables.{or_false, same_number}
use Rattle.core_subst.specs.Names.{above_all, variable}
use Rattle.core_forms.proofs.inlined_bodies.Names.{behind_first, clash, in_either, not_in}
use Rattle.core_forms.specs.norm.Copied.{AreFrom}
use Rattle.core_forms.proofs.norm.Named.{order_distinct, order_between}
use Rattle.parted_bodies.specs.Numbering.{named, numbered}

-- ---- which variable stands for one

named_at : (f : Var → Var) (x y z : Var) → eqb x.0 z.0 ≡ true → named f x y z ≡ y
named_at f x y z e = λ i. cond (e i) y (f z)

named_off : (f : Var → Var) (x y z : Var) → eqb x.0 z.0 ≡ false → named f x y z ≡ f z
named_off f x y z e = λ i. cond (e i) y (f z)

pub numbered_off : (xs : List Var) (f : Var → Var) (n : ℕ) (z : Var) → is_in z xs ≡ false → numbered f xs n z ≡ f z
numbered_off [] f n z h = refl
numbered_off (x ∷ xs) f n z h =
    let w = or_false (eqb x.0 z.0) (is_in z xs) h in
    numbered_off xs (named f x (variable n)) (suc n) z w.1 ∙ named_off f x (variable n) z w.0

-- the variables of the list are numbered in order
pub numbered_order : (xs : List Var) (f : Var → Var) (n : ℕ) → Distinct xs → AreFrom n (map (numbered f xs n) xs)
numbered_order [] f n d = tt
numbered_order (x ∷ xs) f n d = (
  ap (λ (v : Var). v.0) (numbered_off xs (named f x (variable n)) (suc n) x d.0 ∙ named_at f x (variable n) x (eq-eqb x.0 x.0 refl)),
  numbered_order xs (named f x (variable n)) (suc n) d.1,
)

-- ---- lists

pub in_map : (f : Var → Var) (xs : List Var) (y : Var) → is_in y xs ≡ true → is_in (f y) (map f xs) ≡ true
in_map f [] y h = clash false h refl
in_map f (x ∷ xs) y h = go (eqb x.0 y.0) refl h (λ k. in_map f xs y k)
  where
    go : (t : Bool) → eqb x.0 y.0 ≡ t → (t || is_in y xs) ≡ true → (is_in y xs ≡ true → is_in (f y) (map f xs) ≡ true) → (eqb (f x).0 (f y).0 || is_in (f y) (map f xs)) ≡ true
    go true e k rec = λ i. eq-eqb (f x).0 (f y).0 (ap (λ (v : Var). (f v).0) (same_number x y e)) i || is_in (f y) (map f xs)
    go false e k rec = behind_first (f y) (f x) (map f xs) (rec k)

other_way : (m n : ℕ) → eqb m n ≡ false → eqb n m ≡ false
other_way m n h = go (eqb n m) refl
  where
    go : (t : Bool) → eqb n m ≡ t → eqb n m ≡ false
    go true e = clash (eqb m n) (eq-eqb m n (sym (eqb-true n m e))) h
    go false e = e

-- the first of a list is no other one of it
first_alone : (y : Var) (xs : List Var) (z : Var) → is_in y xs ≡ false → is_in z xs ≡ true → eqb y.0 z.0 ≡ false
first_alone y xs z d h = go (eqb y.0 z.0) refl
  where
    go : (t : Bool) → eqb y.0 z.0 ≡ t → eqb y.0 z.0 ≡ false
    go true e = clash (is_in y xs) ((λ i. is_in (same_number y z e i) xs) ∙ h) d
    go false e = e

-- where what stands for the variables of a list is distinct, different ones stay so
pub kept_apart : (f : Var → Var) (xs : List Var) (a b : Var) → Distinct (map f xs) → is_in a xs ≡ true → is_in b xs ≡ true → eqb a.0 b.0 ≡ false → eqb (f a).0 (f b).0 ≡ false
kept_apart f [] a b d p q e = clash false p refl
kept_apart f (x ∷ xs) a b d p q e = go (eqb x.0 a.0) (eqb x.0 b.0) refl refl p q (λ k l. kept_apart f xs a b d.1 k l e)
  where
    go : (t u : Bool) → eqb x.0 a.0 ≡ t → eqb x.0 b.0 ≡ u → (t || is_in a xs) ≡ true → (u || is_in b xs) ≡ true → (is_in a xs ≡ true → is_in b xs ≡ true → eqb (f a).0 (f b).0 ≡ false) → eqb (f a).0 (f b).0 ≡ false
    go true true m n k l rec = clash (eqb a.0 b.0) (eq-eqb a.0 b.0 (sym (eqb-true x.0 a.0 m) ∙ eqb-true x.0 b.0 n)) e
    go true false m n k l rec = (λ i. eqb (f (sym (same_number x a m) i)).0 (f b).0) ∙ first_alone (f x) (map f xs) (f b) d.0 (in_map f xs b l)
    go false true m n k l rec = (λ i. eqb (f a).0 (f (sym (same_number x b n) i)).0) ∙ other_way (f x).0 (f a).0 (first_alone (f x) (map f xs) (f a) d.0 (in_map f xs a k))
    go false false m n k l rec = rec k l

-- ---- numbers above all

first_below : (n m : ℕ) → n < max (suc n) m
first_below n m = omega arith

rest_below : (n m k : ℕ) → k < m → k < max (suc n) m
rest_below n m k h = omega arith

pub below_above : (xs : List Var) (y : Var) → is_in y xs ≡ true → y.0 < above_all xs
below_above [] y h = clash false h refl
below_above (x ∷ xs) y h = go (eqb x.0 y.0) refl h (λ k. below_above xs y k)
  where
    go : (t : Bool) → eqb x.0 y.0 ≡ t → (t || is_in y xs) ≡ true → (is_in y xs ≡ true → y.0 < above_all xs) → y.0 < max (suc x.0) (above_all xs)
    go true e k rec = subst (λ (n : ℕ). n < max (suc x.0) (above_all xs)) (eqb-true x.0 y.0 e) (first_below x.0 (above_all xs))
    go false e k rec = rest_below x.0 (above_all xs) y.0 (rec k)

clash_numbers : (n a b : ℕ) → n ≤ a → b < n → a ≡ b → ⊥
clash_numbers n a b p q e = omega (arith, p, q, e)

apart_if : (m n : ℕ) → (m ≡ n → ⊥) → eqb m n ≡ false
apart_if m n f = go (eqb m n) refl
  where
    go : (t : Bool) → eqb m n ≡ t → eqb m n ≡ false
    go true e = absurd (f (eqb-true m n e))
    go false e = e

-- ---- variables below a number stay, and others are numbered from it on

module _ (low bound : List Var) (n : ℕ) (once : Distinct bound) (off : (y : Var) → is_in y low ≡ true → is_in y bound ≡ false) (below : (y : Var) → is_in y low ≡ true → y.0 < n) where
  abbrev f : Var → Var
  f = numbered (λ x. x) bound n

  pub order : AreFrom n (map f bound)
  order = numbered_order bound (λ x. x) n once

  pub new_once : Distinct (map f bound)
  new_once = order_distinct n (map f bound) order

  pub low_stays : (y : Var) → is_in y low ≡ true → f y ≡ y
  low_stays y h = numbered_off bound (λ x. x) n y (off y h)

  high : (y : Var) → is_in y bound ≡ true → n ≤ (f y).0
  high y h = (order_between n (map f bound) order (f y) (in_map f bound y h)).0

  pub new_off : (y : Var) → is_in y low ≡ true → is_in y (map f bound) ≡ false
  new_off y h = not_in y (map f bound) (λ k. clash_numbers n y.0 y.0 (order_between n (map f bound) order y k).0 (below y h) refl)

  different : (x y : Var) → is_in x bound ≡ true → is_in y low ≡ true → eqb x.0 y.0 ≡ false
  different x y p q = apart_if x.0 y.0 (λ e. clash (is_in y bound) ((λ i. is_in (record { 0 = sym e i }) bound) ∙ p) (off y q))

  mixed : (x y : Var) → is_in x bound ≡ true → is_in y low ≡ true → eqb (f x).0 (f y).0 ≡ false
  mixed x y p q = (λ i. eqb (f x).0 (low_stays y q i).0) ∙ apart_if (f x).0 y.0 (λ e. clash_numbers n (f x).0 y.0 (high x p) (below y q) e)

  pub apart : (x y : Var) → is_in x (bound ++ low) ≡ true → is_in y (bound ++ low) ≡ true → eqb (f x).0 (f y).0 ≡ eqb x.0 y.0
  apart x y p q = go (in_either x bound low p) (in_either y bound low q)
    where
      go : ((is_in x bound ≡ true) ⊎ (is_in x low ≡ true)) → ((is_in y bound ≡ true) ⊎ (is_in y low ≡ true)) → eqb (f x).0 (f y).0 ≡ eqb x.0 y.0
      go (inl h) (inl k) = turn (eqb x.0 y.0) refl
        where
          turn : (t : Bool) → eqb x.0 y.0 ≡ t → eqb (f x).0 (f y).0 ≡ eqb x.0 y.0
          turn true e = eq-eqb (f x).0 (f y).0 (ap (λ (v : Var). (f v).0) (same_number x y e)) ∙ sym e
          turn false e = kept_apart f bound x y new_once h k e ∙ sym e
      go (inl h) (inr k) = mixed x y h k ∙ sym (different x y h k)
      go (inr h) (inl k) = other_way (f y).0 (f x).0 (mixed y x k h) ∙ sym (other_way y.0 x.0 (different y x k h))
      go (inr h) (inr k) = λ i. eqb (low_stays x h i).0 (low_stays y k i).0
