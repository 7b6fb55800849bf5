-- Membership in lists of variables.
use Rattle.std.proofs.Common.{◌≡◌, Bool, true, false, cond, eqb, not, List, [], ◌∷◌, ◌++◌, refl, ap, ◌∙◌, sym, subst, true≢false, inl, inr}
use Rattle.std.specs.Prelude.{◌||◌, ◌&&◌, ◌⊎◌, filter}
use Rattle.std.proofs.lemmas.Bool.{eqb-true, eq-eqb}
use Rattle.core_ir.specs.declared.tree.Var.{Var}
use Rattle.core_ir.specs.Binders.{is_in, NoneIn}
use Rattle.core_ir.specs.Scopes.{AllIn}
use Rattle.core_ir.specs.WellFormed.{Distinct}

-- ---- tests

pub same_var : (x y : Var) → eqb x.0 y.0 ≡ true → x ≡ y
same_var x y p = λ i. record { 0 = eqb-true x.0 y.0 p i }

pub self : (x : Var) → eqb x.0 x.0 ≡ true
self x = eq-eqb x.0 x.0 refl

pub or_left : (a b : Bool) → a ≡ true → (a || b) ≡ true
or_left true b p = refl
or_left false b p = elim (true≢false (sym p)) [ ]

pub or_right : (a b : Bool) → b ≡ true → (a || b) ≡ true
or_right true b p = refl
or_right false b p = p

pub or_either : (a b : Bool) → (a || b) ≡ true → (a ≡ true) ⊎ (b ≡ true)
or_either true b p = inl refl
or_either false b p = inr p

pub or_none : (a b : Bool) → (a || b) ≡ false → (a ≡ false) × (b ≡ false)
or_none true b p = elim (true≢false p) [ ]
or_none false b p = (refl, p)

pub and_left : (a b : Bool) → (a && b) ≡ true → a ≡ true
and_left true b p = refl
and_left false b p = elim (true≢false (sym p)) [ ]

pub and_right : (a b : Bool) → (a && b) ≡ true → b ≡ true
and_right true b p = p
and_right false b p = elim (true≢false (sym p)) [ ]

pub not_true : (a : Bool) → not a ≡ true → a ≡ false
not_true true p = elim (true≢false (sym p)) [ ]
not_true false p = refl

-- what is not true is false
pub is_false : (a : Bool) → (a ≡ true → ⊥) → a ≡ false
is_false true p = elim (p refl) [ ]
is_false false p = refl

pub either : (a : Bool) → (a ≡ true) ⊎ (a ≡ false)
either true = inl refl
either false = inr refl

-- ---- lists one after the other

pub in_front : (x : Var) (xs ys : List Var) → is_in x xs ≡ true → is_in x (xs ++ ys) ≡ true
in_front x [] ys p = elim (true≢false (sym p)) [ ]
in_front x (z ∷ zs) ys p = go (eqb z.0 x.0) p (in_front x zs ys)
  where
    go : (b : Bool) → (b || is_in x zs) ≡ true → (is_in x zs ≡ true → is_in x (zs ++ ys) ≡ true) → (b || is_in x (zs ++ ys)) ≡ true
    go true q rest = refl
    go false q rest = rest q

pub in_back : (x : Var) (xs ys : List Var) → is_in x ys ≡ true → is_in x (xs ++ ys) ≡ true
in_back x [] ys p = p
in_back x (z ∷ zs) ys p = or_right (eqb z.0 x.0) (is_in x (zs ++ ys)) (in_back x zs ys p)

pub in_either : (x : Var) (xs ys : List Var) → is_in x (xs ++ ys) ≡ true → (is_in x xs ≡ true) ⊎ (is_in x ys ≡ true)
in_either x [] ys p = inr p
in_either x (z ∷ zs) ys p = go (eqb z.0 x.0) p (in_either x zs ys)
  where
    go : (b : Bool) → (b || is_in x (zs ++ ys)) ≡ true → (is_in x (zs ++ ys) ≡ true → (is_in x zs ≡ true) ⊎ (is_in x ys ≡ true)) → ((b || is_in x zs) ≡ true) ⊎ (is_in x ys ≡ true)
    go true q rest = inl refl
    go false q rest = rest q

pub here : (x : Var) (xs : List Var) → is_in x (x ∷ xs) ≡ true
here x xs = or_left (eqb x.0 x.0) (is_in x xs) (self x)

-- the second list has all of the first
abbrev pub Within : List Var → List Var → Type 0
Within xs ys = (x : Var) → is_in x xs ≡ true → is_in x ys ≡ true

pub all_in : (xs ys : List Var) → Within xs ys → AllIn xs ys
all_in [] ys w = tt
all_in (x ∷ xs) ys w = (w x (here x xs), all_in xs ys (λ z p. w z (or_right (eqb x.0 z.0) (is_in z xs) p)))

pub within_of : (xs ys : List Var) → AllIn xs ys → Within xs ys
within_of [] ys a x p = elim (true≢false (sym p)) [ ]
within_of (z ∷ zs) ys a x p = go (eqb z.0 x.0) refl p (within_of zs ys a.1 x)
  where
    go : (b : Bool) → eqb z.0 x.0 ≡ b → (b || is_in x zs) ≡ true → (is_in x zs ≡ true → is_in x ys ≡ true) → is_in x ys ≡ true
    go true e q rest = subst (λ v. is_in v ys ≡ true) (same_var z x e) a.0
    go false e q rest = rest q

pub none_less : (xs ys zs : List Var) → Within ys zs → NoneIn xs zs → NoneIn xs ys
none_less [] ys zs w n = tt
none_less (x ∷ xs) ys zs w n = (is_false (is_in x ys) (λ p. true≢false (sym (w x p) ∙ n.0)), none_less xs ys zs w n.1)

pub none_at : (xs ys : List Var) (x : Var) → NoneIn xs ys → is_in x xs ≡ true → is_in x ys ≡ false
none_at [] ys x n p = elim (true≢false (sym p)) [ ]
none_at (z ∷ zs) ys x n p = go (eqb z.0 x.0) refl p (none_at zs ys x n.1)
  where
    go : (b : Bool) → eqb z.0 x.0 ≡ b → (b || is_in x zs) ≡ true → (is_in x zs ≡ true → is_in x ys ≡ false) → is_in x ys ≡ false
    go true e q rest = subst (λ v. is_in v ys ≡ false) (same_var z x e) n.0
    go false e q rest = rest q

pub append_assoc : (xs ys zs : List Var) → xs ++ (ys ++ zs) ≡ (xs ++ ys) ++ zs
append_assoc [] ys zs = refl
append_assoc (x ∷ xs) ys zs = ap (λ l. x ∷ l) (append_assoc xs ys zs)

-- ---- filters

pub in_filter : (p : Var → Bool) (xs : List Var) (x : Var) → is_in x xs ≡ true → p x ≡ true → is_in x (filter p xs) ≡ true
in_filter p [] x i q = i
in_filter p (z ∷ zs) x i q = go (p z) refl (eqb z.0 x.0) refl i (λ r. in_filter p zs x r q)
  where
    go : (k : Bool) → p z ≡ k → (b : Bool) → eqb z.0 x.0 ≡ b → (b || is_in x zs) ≡ true → (is_in x zs ≡ true → is_in x (filter p zs) ≡ true) → is_in x (cond k (z ∷ filter p zs) (filter p zs)) ≡ true
    go true e true f r rest = or_left (eqb z.0 x.0) (is_in x (filter p zs)) f
    go true e false f r rest = or_right (eqb z.0 x.0) (is_in x (filter p zs)) (rest r)
    go false e true f r rest = elim (true≢false (sym q ∙ ap p (sym (same_var z x f)) ∙ e)) [ ]
    go false e false f r rest = rest r

pub of_filter : (p : Var → Bool) (xs : List Var) (x : Var) → is_in x (filter p xs) ≡ true → (is_in x xs ≡ true) × (p x ≡ true)
of_filter p [] x i = elim (true≢false (sym i)) [ ]
of_filter p (z ∷ zs) x i = go (p z) refl i (of_filter p zs x)
  where
    more : (is_in x zs ≡ true) × (p x ≡ true) → ((eqb z.0 x.0 || is_in x zs) ≡ true) × (p x ≡ true)
    more r = (or_right (eqb z.0 x.0) (is_in x zs) r.0, r.1)

    first : (k : p z ≡ true) (b : Bool) → eqb z.0 x.0 ≡ b → (b || is_in x (filter p zs)) ≡ true → (is_in x (filter p zs) ≡ true → (is_in x zs ≡ true) × (p x ≡ true)) → ((b || is_in x zs) ≡ true) × (p x ≡ true)
    first k true e r rest = (refl, ap p (sym (same_var z x e)) ∙ k)
    first k false e r rest = rest r

    go : (k : Bool) → p z ≡ k → is_in x (cond k (z ∷ filter p zs) (filter p zs)) ≡ true → (is_in x (filter p zs) ≡ true → (is_in x zs ≡ true) × (p x ≡ true)) → ((eqb z.0 x.0 || is_in x zs) ≡ true) × (p x ≡ true)
    go true e r rest = first e (eqb z.0 x.0) refl r rest
    go false e r rest = more (rest r)

pub filter_distinct : (p : Var → Bool) (xs : List Var) → Distinct xs → Distinct (filter p xs)
filter_distinct p [] d = tt
filter_distinct p (z ∷ zs) d = go (p z) (filter_distinct p zs d.1)
  where
    go : (k : Bool) → Distinct (filter p zs) → Distinct (cond k (z ∷ filter p zs) (filter p zs))
    go true r = (is_false (is_in z (filter p zs)) (λ q. true≢false (sym (of_filter p zs z q).0 ∙ d.0)), r)
    go false r = r

pub both_distinct : (xs ys : List Var) → Distinct xs → Distinct ys → NoneIn xs ys → Distinct (xs ++ ys)
both_distinct [] ys d e n = e
both_distinct (x ∷ xs) ys d e n = (
  is_false (is_in x (xs ++ ys)) (λ p. elim (in_either x xs ys p) [ inl q ↦ true≢false (sym q ∙ d.0) | inr q ↦ true≢false (sym q ∙ n.0) ]),
  both_distinct xs ys d.1 e n.1,
)

pub front_distinct : (xs ys : List Var) → Distinct (xs ++ ys) → Distinct xs
front_distinct [] ys d = tt
front_distinct (x ∷ xs) ys d = (is_false (is_in x xs) (λ p. true≢false (sym (in_front x xs ys p) ∙ d.0)), front_distinct xs ys d.1)

pub back_distinct : (xs ys : List Var) → Distinct (xs ++ ys) → Distinct ys
back_distinct [] ys d = d
back_distinct (x ∷ xs) ys d = back_distinct xs ys d.1
