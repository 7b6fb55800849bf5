-- Variables and their lists.
use Rattle.std.proofs.Common.{◌≡◌, Bool, true, false, ◌||◌, eqb, List, [], ◌∷◌, ◌++◌, refl, ap, sym, ◌∙◌}
use Rattle.std.proofs.lemmas.Bool.{eqb-true}
use Rattle.core_ir.specs.declared.tree.Var.{Var}
use Rattle.core_ir.specs.Binders.{is_in, NoneIn}
use Rattle.core_ir.specs.Scopes.{AllIn}

pub same_number : (x y : Var) → eqb x.0 y.0 ≡ true → x ≡ y
same_number x y p = λ i. record { 0 = eqb-true x.0 y.0 p i }

pub or_false : (a b : Bool) → (a || b) ≡ false → (a ≡ false) × (b ≡ false)
or_false false b h = (refl, h)
or_false true b h = absurd (cc)

pub or_right : (a b : Bool) → b ≡ true → (a || b) ≡ true
or_right true b p = refl
or_right false b p = p

pub in_more : (y : Var) (xs zs : List Var) → is_in y (xs ++ zs) ≡ (is_in y xs || is_in y zs)
in_more y [] zs = refl
in_more y (x ∷ xs) zs = ap (λ b. eqb x.0 y.0 || b) (in_more y xs zs) ∙ assoc (eqb x.0 y.0) (is_in y xs) (is_in y zs)
  where
    assoc : (a b c : Bool) → (a || (b || c)) ≡ ((a || b) || c)
    assoc true b c = refl
    assoc false b c = refl

-- in neither of two lists
pub in_neither : (y : Var) (xs zs : List Var) → is_in y (xs ++ zs) ≡ false → (is_in y xs ≡ false) × (is_in y zs ≡ false)
in_neither y xs zs h = or_false (is_in y xs) (is_in y zs) (sym (in_more y xs zs) ∙ h)

pub in_front : (y : Var) (xs scope : List Var) → is_in y scope ≡ true → is_in y (xs ++ scope) ≡ true
in_front y xs scope h = in_more y xs scope ∙ or_right (is_in y xs) (is_in y scope) h

-- a variable of the second list is in no list whose members are not
pub not_bound : (xs scope : List Var) (y : Var) → NoneIn xs scope → is_in y scope ≡ true → is_in y xs ≡ false
not_bound [] scope y n h = refl
not_bound (x ∷ xs) scope y n h = go (eqb x.0 y.0) refl (not_bound xs scope y n.1 h)
  where
    go : (b : Bool) → eqb x.0 y.0 ≡ b → is_in y xs ≡ false → (eqb x.0 y.0 || is_in y xs) ≡ false
    go true e k = absurd (let p : is_in x scope ≡ true = (λ i. is_in (same_number x y e i) scope) ∙ h in let q = n.0 in cc)
    go false e k = λ i. e i || k i

pub all_in_at : (ys scope : List Var) (y : Var) → AllIn ys scope → is_in y ys ≡ true → is_in y scope ≡ true
all_in_at [] scope y h k = absurd (cc)
all_in_at (x ∷ xs) scope y h k = go (eqb x.0 y.0) refl (λ m. all_in_at xs scope y h.1 m)
  where
    go : (b : Bool) → eqb x.0 y.0 ≡ b → (is_in y xs ≡ true → is_in y scope ≡ true) → is_in y scope ≡ true
    go true e f = (λ i. is_in (sym (same_number x y e) i) scope) ∙ h.0
    go false e f = f (sym (λ i. e i || is_in y xs) ∙ k)

pub all_more : (ys xs scope : List Var) → AllIn ys scope → AllIn ys (xs ++ scope)
all_more [] xs scope h = tt
all_more (y ∷ ys) xs scope h = (in_front y xs scope h.0, all_more ys xs scope h.1)
