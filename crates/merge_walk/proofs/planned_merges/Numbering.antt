-- New numbers for the variables of a list: what they stand for, one after another, and apart from all others.
use Rattle.std.proofs.Common.{◌≡◌, ℕ, suc, ◌+◌, ◌<◌, ◌≤◌, Bool, true, false, ◌||◌, cond, eqb, List, [], ◌∷◌, ◌++◌, map, length, refl, sym, ap, subst, ◌∙◌, arith}
use Rattle.std.proofs.lemmas.Bool.{eqb-true, eq-eqb}
use Rattle.std.proofs.lemmas.List.{length-map}
use Rattle.core_ir.specs.declared.tree.Var.{Var}
use Rattle.core_ir.specs.Binders.{is_in}
use Rattle.core_ir.specs.WellFormed.{Distinct}
use Rattle.core_ir.proofs.Variables.{or_false, same_number}
use Rattle.core_subst.specs.Names.{variable}
use Rattle.core_forms.proofs.inlined_bodies.Names.{clash}
use Rattle.core_forms.specs.norm.Copied.{AreFrom}
use Rattle.core_forms.proofs.norm.Named.{order_between, order_distinct}
use Rattle.parted_bodies.specs.Numbering.{named, numbered}

-- ---- equal numbers

pub other_than : (x y : Var) (xs : List Var) → is_in x xs ≡ false → is_in y xs ≡ true → eqb x.0 y.0 ≡ false
other_than x y xs n m = go (eqb x.0 y.0) refl
  where
    go : (b : Bool) → eqb x.0 y.0 ≡ b → eqb x.0 y.0 ≡ false
    go true e = clash (is_in y xs) m ((λ i. is_in (sym (same_number x y e) i) xs) ∙ n)
    go false e = e

pub turned : (x y : ℕ) → eqb x y ≡ false → eqb y x ≡ false
turned x y n = go (eqb y x) refl
  where
    go : (b : Bool) → eqb y x ≡ b → eqb y x ≡ false
    go true e = clash (eqb x y) (eq-eqb x y (sym (eqb-true y x e))) n
    go false e = e

pub apart_by : (x y : ℕ) → (x ≡ y → ⊥) → eqb x y ≡ false
apart_by x y f = go (eqb x y) refl
  where
    go : (b : Bool) → eqb x y ≡ b → eqb x y ≡ false
    go true e = absurd (f (eqb-true x y e))
    go false e = e

-- ---- a list's variables

pub outside : (f : Var → Var) (xs : List Var) (n : ℕ) (y : Var) → is_in y xs ≡ false → numbered f xs n y ≡ f y
outside f [] n y h = refl
outside f (x ∷ xs) n y h =
    let w = or_false (eqb x.0 y.0) (is_in y xs) h in
    outside (named f x (variable n)) xs (suc n) y w.1 ∙ (λ i. cond (w.0 i) (variable n) (f y))

pub first_is : (f : Var → Var) (x : Var) (xs : List Var) (n : ℕ) → is_in x xs ≡ false → numbered f (x ∷ xs) n x ≡ variable n
first_is f x xs n h = outside (named f x (variable n)) xs (suc n) x h ∙ (λ i. cond (eq-eqb x.0 x.0 refl i) (variable n) (f x))

pub from : (f : Var → Var) (xs : List Var) (n : ℕ) → Distinct xs → AreFrom n (map (numbered f xs n) xs)
from f [] n d = tt
from f (x ∷ xs) n d = (ap (λ (v : Var). v.0) (first_is f x xs n d.0), from (named f x (variable n)) xs (suc n) d.1)

in_map : (g : Var → Var) (xs : List Var) (y : Var) → is_in y xs ≡ true → is_in (g y) (map g xs) ≡ true
in_map g [] y h = clash false h refl
in_map g (x ∷ xs) y h = go (eqb x.0 y.0) refl h (in_map g xs y)
  where
    go : (b : Bool) → eqb x.0 y.0 ≡ b → (b || is_in y xs) ≡ true → (is_in y xs ≡ true → is_in (g y) (map g xs) ≡ true) → (eqb (g x).0 (g y).0 || is_in (g y) (map g xs)) ≡ true
    go true e m rec = λ i. eq-eqb (g x).0 (g y).0 (ap (λ v. (g v).0) (same_number x y e)) i || is_in (g y) (map g xs)
    go false e m rec = Rattle.core_ir.proofs.Variables.or_right (eqb (g x).0 (g y).0) (is_in (g y) (map g xs)) (rec m)

distinct_map : (g : Var → Var) (xs : List Var) → Distinct (map g xs) → (x y : Var) → is_in x xs ≡ true → is_in y xs ≡ true → eqb x.0 y.0 ≡ false → eqb (g x).0 (g y).0 ≡ false
distinct_map g [] d x y p q n = clash false p refl
distinct_map g (z ∷ zs) d x y p q n = go (eqb z.0 x.0) refl p (eqb z.0 y.0) refl q (distinct_map g zs d.1 x y)
  where
    apart : (u : Var) → is_in u zs ≡ true → eqb (g z).0 (g u).0 ≡ false
    apart u m = other_than (g z) (g u) (map g zs) d.0 (in_map g zs u m)

    go :
        (b : Bool) → eqb z.0 x.0 ≡ b → (b || is_in x zs) ≡ true → (c : Bool) → eqb z.0 y.0 ≡ c → (c || is_in y zs) ≡ true →
        (is_in x zs ≡ true → is_in y zs ≡ true → eqb x.0 y.0 ≡ false → eqb (g x).0 (g y).0 ≡ false) → eqb (g x).0 (g y).0 ≡ false
    go true e m true f k rec = clash (eqb x.0 y.0) (eq-eqb x.0 y.0 (ap (λ (v : Var). v.0) (sym (same_number z x e) ∙ same_number z y f))) n
    go true e m false f k rec = (λ i. eqb (g (sym (same_number z x e) i)).0 (g y).0) ∙ apart y k
    go false e m true f k rec = (λ i. eqb (g x).0 (g (sym (same_number z y f) i)).0) ∙ turned (g z).0 (g x).0 (apart x m)
    go false e m false f k rec = rec m k n

-- ---- all that is older

module _ (xs : List Var) (n : ℕ) (d : Distinct xs) where
  abbrev pub new_of : Var → Var
  new_of = numbered (λ x. x) xs n

  pub new_between : (y : Var) → is_in y xs ≡ true → (n ≤ (new_of y).0) × ((new_of y).0 < n + length xs)
  new_between y h =
      let b = order_between n (map new_of xs) (from (λ x. x) xs n d) (new_of y) (in_map new_of xs y h) in
      let l = length-map xs new_of in
      let p = b.1 in
      (b.0, omega (arith, p, l))

  pub old_stays : (y : Var) → is_in y xs ≡ false → new_of y ≡ y
  old_stays y h = outside (λ x. x) xs n y h

  pub keeps : (x y : Var) → x.0 < n → y.0 < n → eqb (new_of x).0 (new_of y).0 ≡ eqb x.0 y.0
  keeps x y p q = go (is_in x xs) refl (is_in y xs) refl
    where
      over : (a b : ℕ) → n ≤ a → b < n → eqb a b ≡ false
      over a b h k = apart_by a b (λ e. omega (arith, h, k, e))

      both : (b : Bool) → eqb x.0 y.0 ≡ b → is_in x xs ≡ true → is_in y xs ≡ true → eqb (new_of x).0 (new_of y).0 ≡ b
      both true e h k = eq-eqb (new_of x).0 (new_of y).0 (ap (λ v. (new_of v).0) (same_number x y e))
      both false e h k = distinct_map new_of xs (order_distinct n (map new_of xs) (from (λ x. x) xs n d)) x y h k e

      go : (b : Bool) → is_in x xs ≡ b → (c : Bool) → is_in y xs ≡ c → eqb (new_of x).0 (new_of y).0 ≡ eqb x.0 y.0
      go true h true k = both (eqb x.0 y.0) refl h k
      go true h false k =
          (λ i. eqb (new_of x).0 (old_stays y k i).0) ∙ over (new_of x).0 y.0 (new_between x h).0 q ∙ sym (turned y.0 x.0 (other_than y x xs k h))
      go false h true k =
          (λ i. eqb (old_stays x h i).0 (new_of y).0) ∙ turned (new_of y).0 x.0 (over (new_of y).0 x.0 (new_between y k).0 p) ∙ sym (other_than x y xs h k)
      go false h false k = λ i. eqb (old_stays x h i).0 (old_stays y k i).0

  -- a number between those of old variables and the new ones
  pub not_new : (low : ℕ) (x y : Var) → low ≤ x.0 → x.0 < n → y.0 < low → eqb x.0 (new_of y).0 ≡ false
  not_new low x y p q r = go (is_in y xs) refl
    where
      go : (b : Bool) → is_in y xs ≡ b → eqb x.0 (new_of y).0 ≡ false
      go true h = let b = (new_between y h).0 in apart_by x.0 (new_of y).0 (λ e. omega (arith, b, q, e))
      go false h = (λ i. eqb x.0 (old_stays y h i).0) ∙ apart_by x.0 y.0 (λ e. omega (arith, p, r, e))

-- ---- lists of numbers in a row

pub from_both : (n : ℕ) (xs ys : List Var) → AreFrom n xs → AreFrom (n + length xs) ys → AreFrom n (xs ++ ys)
from_both n [] ys h k = let e : n + 0 ≡ n = omega arith in subst (λ m. AreFrom m ys) e k
from_both n (x ∷ xs) ys h k =
    let e : n + suc (length xs) ≡ suc n + length xs = omega arith in
    (h.0, from_both (suc n) xs ys h.1 (subst (λ m. AreFrom m ys) e k))
