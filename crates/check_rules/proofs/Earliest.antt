-- The earliest of violations: it does not matter how they are grouped, and the earliest of a list is in the list and no later than any other.
use Rattle.std.proofs.Common.{◌≡◌, ℕ, ◌<◌, ◌≤◌, ◌⊎◌, inl, inr, List, [], ◌∷◌, ◌++◌, Bool, true, false, Option, Some, None, refl, sym, ap, ◌∙◌, true≢false, arith, subst, if◌then◌else◌, nat_lt, nat_le}
use Rattle.std.specs.Prelude.{All, Contains, slice_index_or}
use Rattle.std.proofs.lemmas.List.Elements.{All-cons, Contains-append_right}
use borrow.Author.Tests.{ltb-true, ltb-false, leb-true, leb-false}
use Rattle.check_rules.specs.declared.code.CheckCode.{CheckCode}
use Rattle.sac_base.specs.declared.site.Site.{Site}
use Rattle.check_rules.specs.Accepted.{code_number}
use Rattle.check_rules.specs.Accepted as accepted
use Rattle.check_rules.specs.declared.violation.Violation.{Violation}
use Rattle.check_rules.specs.First.{in_order, is_no_later, earlier, unless, is_clean, first_of}

-- ---- the order of three numbers

abbrev IsOrdered : ℕ → ℕ → ℕ → ℕ → ℕ → ℕ → Type 0
IsOrdered a b c x y z = (a < x) ⊎ (a ≡ x) × ((b < y) ⊎ (b ≡ y) × (c ≤ z))

abbrev IsStrict : ℕ → ℕ → ℕ → ℕ → ℕ → ℕ → Type 0
IsStrict a b c x y z = (a < x) ⊎ (a ≡ x) × ((b < y) ⊎ (b ≡ y) × (c < z))

pub ordered : (a b c x y z : ℕ) → in_order a b c x y z ≡ true → IsOrdered a b c x y z
ordered a b c x y z = lines (nat_lt a x) refl (nat_lt x a) refl (nat_lt b y) refl (nat_lt y b) refl (nat_le c z) refl
  where
    lines : (p : Bool) → nat_lt a x ≡ p → (q : Bool) → nat_lt x a ≡ q → (r : Bool) → nat_lt b y ≡ r → (s : Bool) → nat_lt y b ≡ s → (t : Bool) → nat_le c z ≡ t
        → (if p then true else if q then false else if r then true else if s then false else t) ≡ true → IsOrdered a b c x y z
    lines true e q f r g s k t l h = inl (ltb-true a x e)
    lines false e true f r g s k t l h = absurd (true≢false (sym h))
    lines false e false f true g s k t l h = inr (omega (arith, ltb-false a x e, ltb-false x a f), inl (ltb-true b y g))
    lines false e false f false g true k t l h = absurd (true≢false (sym h))
    lines false e false f false g false k true l h = inr (omega (arith, ltb-false a x e, ltb-false x a f), inr (omega (arith, ltb-false b y g, ltb-false y b k), leb-true c z l))
    lines false e false f false g false k false l h = absurd (true≢false (sym h))

pub misordered : (a b c x y z : ℕ) → in_order a b c x y z ≡ false → IsStrict x y z a b c
misordered a b c x y z = lines (nat_lt a x) refl (nat_lt x a) refl (nat_lt b y) refl (nat_lt y b) refl (nat_le c z) refl
  where
    lines : (p : Bool) → nat_lt a x ≡ p → (q : Bool) → nat_lt x a ≡ q → (r : Bool) → nat_lt b y ≡ r → (s : Bool) → nat_lt y b ≡ s → (t : Bool) → nat_le c z ≡ t
        → (if p then true else if q then false else if r then true else if s then false else t) ≡ false → IsStrict x y z a b c
    lines true e q f r g s k t l h = absurd (true≢false h)
    lines false e true f r g s k t l h = inl (ltb-true x a f)
    lines false e false f true g s k t l h = absurd (true≢false h)
    lines false e false f false g true k t l h = inr (omega (arith, ltb-false a x e, ltb-false x a f), inl (ltb-true y b k))
    lines false e false f false g false k true l h = absurd (true≢false h)
    lines false e false f false g false k false l h = inr (omega (arith, ltb-false a x e, ltb-false x a f), inr (omega (arith, ltb-false b y g, ltb-false y b k), leb-false c z l))

weaker : (a b c x y z : ℕ) → IsStrict a b c x y z → IsOrdered a b c x y z
weaker a b c x y z (inl h) = inl h
weaker a b c x y z (inr (h, inl k)) = inr (h, inl k)
weaker a b c x y z (inr (h, inr (k, l))) = inr (h, inr (k, omega arith))

-- not each of three is before the next
no_round : (a b c d e f g h i : ℕ) → IsOrdered a b c d e f → IsOrdered d e f g h i → IsStrict g h i a b c → ⊥
no_round a b c d e f g h i p q r = grind arith

abbrev Ordered : Violation → Violation → Type 0
Ordered u v = IsOrdered u.site.line u.site.col (code_number u.code) v.site.line v.site.col (code_number v.code)

abbrev Strict : Violation → Violation → Type 0
Strict u v = IsStrict u.site.line u.site.col (code_number u.code) v.site.line v.site.col (code_number v.code)

told : (u v : Violation) → is_no_later u v ≡ true → Ordered u v
told u v = ordered u.site.line u.site.col (code_number u.code) v.site.line v.site.col (code_number v.code)

untold : (u v : Violation) → is_no_later u v ≡ false → Strict v u
untold u v = misordered u.site.line u.site.col (code_number u.code) v.site.line v.site.col (code_number v.code)

strictly : (u v : Violation) → Strict u v → Ordered u v
strictly u v = weaker u.site.line u.site.col (code_number u.code) v.site.line v.site.col (code_number v.code)

round : (u v w : Violation) → Ordered u v → Ordered v w → Strict w u → ⊥
round u v w = no_round u.site.line u.site.col (code_number u.code) v.site.line v.site.col (code_number v.code) w.site.line w.site.col (code_number w.code)

pub no_later_twice : (u v w : Violation) → is_no_later u v ≡ true → is_no_later v w ≡ true → is_no_later u w ≡ true
no_later_twice u v w p q = by (is_no_later u w) refl
  where
    by : (b : Bool) → is_no_later u w ≡ b → b ≡ true
    by true e = refl
    by false e = absurd (round u v w (told u v p) (told v w q) (untold u w e))

later_twice : (u v w : Violation) → is_no_later u v ≡ false → is_no_later v w ≡ false → is_no_later u w ≡ false
later_twice u v w p q = by (is_no_later u w) refl
  where
    by : (b : Bool) → is_no_later u w ≡ b → b ≡ false
    by false e = refl
    by true e = absurd (round u w v (told u w e) (strictly w v (untold v w q)) (untold u v p))

-- ---- groups

pub earlier_grouped : (a b c : Option Violation) → earlier (earlier a b) c ≡ earlier a (earlier b c)
earlier_grouped None b c = refl
earlier_grouped (Some u) None c = refl
earlier_grouped (Some u) (Some v) None = by (is_no_later u v)
  where
    by : (b : Bool) → earlier (if b then Some u else Some v) None ≡ (if b then Some u else Some v)
    by true = refl
    by false = refl
earlier_grouped (Some u) (Some v) (Some w) = by (is_no_later u v) refl (is_no_later v w) refl
  where
    by : (p : Bool) → is_no_later u v ≡ p → (q : Bool) → is_no_later v w ≡ q → earlier (if p then Some u else Some v) (Some w) ≡ earlier (Some u) (if q then Some v else Some w)
    by true e true f = ap (λ b. if b then Some u else Some w) (no_later_twice u v w e f) ∙ ap (λ b. if b then Some u else Some v) (sym e)
    by true e false f = refl
    by false e true f = ap (λ b. if b then Some v else Some w) f ∙ ap (λ b. if b then Some u else Some v) (sym e)
    by false e false f = ap (λ b. if b then Some v else Some w) f ∙ ap (λ b. if b then Some u else Some w) (sym (later_twice u v w e f))

pub earlier_none : (a : Option Violation) → earlier a None ≡ a
earlier_none None = refl
earlier_none (Some v) = refl

pub first_of_append : (xs ys : List Violation) → first_of (xs ++ ys) ≡ earlier (first_of xs) (first_of ys)
first_of_append [] ys = refl
first_of_append (x ∷ xs) ys = ap (earlier (Some x)) (first_of_append xs ys) ∙ sym (earlier_grouped (Some x) (first_of xs) (first_of ys))

pub first_of_unless : (b : Bool) (code : CheckCode) (site : Site) → first_of (accepted.unless b code site) ≡ unless b code site
first_of_unless true code site = refl
first_of_unless false code site = refl

is_found : (r : Option Violation) (v : Violation) → is_clean (earlier (Some v) r) ≡ false
is_found None v = refl
is_found (Some w) v = by (is_no_later v w)
  where
    by : (b : Bool) → is_clean (if b then Some v else Some w) ≡ false
    by true = refl
    by false = refl

pub clean_first : (xs : List Violation) → is_clean (first_of xs) ≡ accepted.is_clean xs
clean_first [] = refl
clean_first (x ∷ xs) = is_found (first_of xs) x

-- ---- the whole list

pub no_first : (xs : List Violation) → first_of xs ≡ None → xs ≡ []
no_first [] h = refl
no_first (x ∷ xs) h = absurd (true≢false (sym (ap is_clean h) ∙ is_found (first_of xs) x))

no_later_three : (u v w : Violation) → accepted.IsNoLater u v → accepted.IsNoLater v w → accepted.IsNoLater u w
no_later_three u v w p q = by (is_no_later u w) refl
  where
    by : (b : Bool) → is_no_later u w ≡ b → accepted.IsNoLater u w
    by true e = told u w e
    by false e = absurd (round u v w p q (untold u w e))

itself : (v : Violation) → accepted.IsNoLater v v
itself v = inr (refl, inr (refl, omega arith))

before_all : (v w : Violation) (xs : List Violation) → accepted.IsNoLater v w → All (accepted.IsNoLater w) xs → All (accepted.IsNoLater v) xs
before_all v w xs h all = λ k d below. no_later_three v w (slice_index_or xs k d) h (all k d below)

at_head : (x : Violation) (xs : List Violation) → Contains (x ∷ xs) x
at_head x xs = (0, omega arith, refl)

pub first_is : (xs : List Violation) (v : Violation) → first_of xs ≡ Some v → Contains xs v × All (accepted.IsNoLater v) xs
first_is [] v h = cc
first_is (x ∷ xs) v h = by (first_of xs) refl h (first_is xs)
  where
    by : (r : Option Violation) → first_of xs ≡ r → earlier (Some x) r ≡ Some v → ((w : Violation) → first_of xs ≡ Some w → Contains xs w × All (accepted.IsNoLater w) xs)
        → Contains (x ∷ xs) v × All (accepted.IsNoLater v) (x ∷ xs)
    by None e f rest =
        let same : x ≡ v = cc in
        let empty = no_first xs e in
        subst (λ u. Contains (x ∷ xs) u × All (accepted.IsNoLater u) (x ∷ xs)) same
        (at_head x xs, subst (λ ys. All (accepted.IsNoLater x) (x ∷ ys)) (sym empty) (All-cons (accepted.IsNoLater x) x [] (itself x) (λ k d below. absurd (omega arith))))
    by (Some w) e f rest = which (is_no_later x w) refl f
      where
        which : (b : Bool) → is_no_later x w ≡ b → (if b then Some x else Some w) ≡ Some v → Contains (x ∷ xs) v × All (accepted.IsNoLater v) (x ∷ xs)
        which true g k =
            let same : x ≡ v = cc in
            subst (λ u. Contains (x ∷ xs) u × All (accepted.IsNoLater u) (x ∷ xs)) same
            (at_head x xs, All-cons (accepted.IsNoLater x) x xs (itself x) (before_all x w xs (told x w g) (rest w e).1))
        which false g k =
            let same : w ≡ v = cc in
            subst (λ u. Contains (x ∷ xs) u × All (accepted.IsNoLater u) (x ∷ xs)) same
            (Contains-append_right (x ∷ []) xs w (rest w e).0, All-cons (accepted.IsNoLater w) x xs (strictly w x (untold x w g)) (rest w e).1)
