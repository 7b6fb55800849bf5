-- Lists of variables, and bases of variables that are not bound.
use Rattle.std.proofs.Common.{◌≡◌, Bool, true, false, ◌||◌, cond, eqb, List, [], ◌∷◌, ◌++◌, Some, refl, sym, ◌∙◌}
use Rattle.std.specs.Prelude.{zip}
use Rattle.std.proofs.lemmas.Bool.{eq-eqb}
use Rattle.sac_base.specs.declared.base.Base.{Base}
use Rattle.sac_base.specs.declared.base.Base.TheVariants.{Int}
use Rattle.core_ir.specs.declared.tree.Var.{Var}
use Rattle.core_ir.specs.Binders.{is_in}
use Rattle.core_ir.specs.WellFormed.{Bases, Distinct, base_of, ints}
use Rattle.core_ir.proofs.Variables.{in_more, or_false, same_number}

pub clash : {A : Type 0} (b : Bool) → b ≡ true → b ≡ false → A
clash b p q = absurd (let r = sym p ∙ q in cc)

pub itself : (x : Var) (xs : List Var) → is_in x (x ∷ xs) ≡ true
itself x xs = λ i. eq-eqb x.0 x.0 refl i || is_in x xs

pub behind_first : (y x : Var) (xs : List Var) → is_in y xs ≡ true → is_in y (x ∷ xs) ≡ true
behind_first y x xs p = go (eqb x.0 y.0)
  where
    go : (t : Bool) → (t || is_in y xs) ≡ true
    go true = refl
    go false = p

pub in_left : (y : Var) (xs zs : List Var) → is_in y xs ≡ true → is_in y (xs ++ zs) ≡ true
in_left y xs zs p = in_more y xs zs ∙ (λ i. p i || is_in y zs)

-- two numbers that differ, the other way round
pub turned : (x y : Var) → eqb y.0 x.0 ≡ false → eqb x.0 y.0 ≡ false
turned x y n = go (eqb x.0 y.0) refl
  where
    go : (b : Bool) → eqb x.0 y.0 ≡ b → eqb x.0 y.0 ≡ false
    go true e = clash (eqb y.0 x.0) ((λ i. eqb y.0 (same_number x y e i).0) ∙ eq-eqb y.0 y.0 refl) n
    go false e = e

-- ---- bases behind binders

pub zip_elsewhere : (xs : List Var) (ts : List Base) (g : Bases) (y : Var) → is_in y xs ≡ false → base_of (zip xs ts ++ g) y ≡ base_of g y
zip_elsewhere [] ts g y n = refl
zip_elsewhere (x ∷ xs) [] g y n = refl
zip_elsewhere (x ∷ xs) (t ∷ ts) g y n =
    let w = or_false (eqb x.0 y.0) (is_in y xs) n in
    (λ i. cond (w.0 i) (Some t) (base_of (zip xs ts ++ g) y)) ∙ zip_elsewhere xs ts g y w.1

pub ints_elsewhere : (xs : List Var) (g : Bases) (y : Var) → is_in y xs ≡ false → base_of (ints xs ++ g) y ≡ base_of g y
ints_elsewhere [] g y n = refl
ints_elsewhere (x ∷ xs) g y n =
    let w = or_false (eqb x.0 y.0) (is_in y xs) n in
    (λ i. cond (w.0 i) (Some Int) (base_of (ints xs ++ g) y)) ∙ ints_elsewhere xs g y w.1

-- ---- lists from which some are left out

pub data Sub : List Var → List Var → Type 0 where
  none : Sub [] []
  kept : {x : Var} {xs ys : List Var} → Sub xs ys → Sub (x ∷ xs) (x ∷ ys)
  left : {y : Var} {xs ys : List Var} → Sub xs ys → Sub xs (y ∷ ys)

pub all_of : (xs : List Var) → Sub xs xs
all_of [] = none
all_of (x ∷ xs) = kept (all_of xs)

pub none_of : (xs : List Var) → Sub [] xs
none_of [] = none
none_of (x ∷ xs) = left (none_of xs)

pub joined : {xs ys us vs : List Var} → Sub xs ys → Sub us vs → Sub (xs ++ us) (ys ++ vs)
joined none q = q
joined (kept p) q = kept (joined p q)
joined (left p) q = left (joined p q)

pub behind_all : (zs : List Var) {xs ys : List Var} → Sub xs ys → Sub xs (zs ++ ys)
behind_all [] p = p
behind_all (z ∷ zs) p = left (behind_all zs p)

not_left : {xs ys : List Var} (y : Var) → Sub xs ys → is_in y ys ≡ false → is_in y xs ≡ false
not_left y none n = n
not_left y (kept {x = x} {xs = xs} {ys = ys} p) n =
    let w = or_false (eqb x.0 y.0) (is_in y ys) n in λ i. w.0 i || not_left y p w.1 i
not_left y (left {y = z} {xs = xs} {ys = ys} p) n = not_left y p (or_false (eqb z.0 y.0) (is_in y ys) n).1

pub distinct_sub : {xs ys : List Var} → Sub xs ys → Distinct ys → Distinct xs
distinct_sub none d = d
distinct_sub (kept {x = x} p) d = (not_left x p d.0, distinct_sub p d.1)
distinct_sub (left p) d = distinct_sub p d.1
