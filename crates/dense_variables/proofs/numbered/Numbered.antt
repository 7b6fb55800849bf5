-- Variables that stand for others in a copy: each list of variables has numbers one after another, and what stands for two variables is kept apart.
use Rattle.std.proofs.Common.{◌≡◌, ℕ, suc, ◌+◌, ◌<◌, ◌≤◌, Bool, true, false, ◌||◌, cond, eqb, List, [], ◌∷◌, ◌++◌, map, length, refl, sym, ap, subst, ◌∙◌, ◌⊎◌, inl, inr, arith}
use Rattle.std.proofs.lemmas.Bool.{eqb-true, eq-eqb}
use Rattle.core_ir.specs.declared.tree.Var.{Var}
use Rattle.core_ir.specs.Binders.{is_in}
use Rattle.core_ir.specs.WellFormed.{Distinct}
use Rattle.core_ir.proofs.Variables.{or_false, same_number}
use Rattle.core_subst.specs.Names.{variable}
use Rattle.core_forms.proofs.inlined_bodies.Names.{behind_first, clash, itself}
use Rattle.parted_bodies.specs.Numbering.{named, numbered}
use Rattle.parted_bodies.specs.Making.{component_names}
use Rattle.core_forms.specs.norm.Copied.{AreFrom}

-- ---- numbers

eqb_above : (m n : ℕ) → n < m → eqb m n ≡ false
eqb_above m n h = go (eqb m n) refl
  where
    go : (t : Bool) → eqb m n ≡ t → eqb m n ≡ false
    go true e = absurd (let p = eqb-true m n e in omega (arith, p, h))
    go false e = e

eqb_below : (m n : ℕ) → m < n → eqb m n ≡ false
eqb_below m n h = go (eqb m n) refl
  where
    go : (t : Bool) → eqb m n ≡ t → eqb m n ≡ false
    go true e = absurd (let p = eqb-true m n e in omega (arith, p, h))
    go false e = e

pub turned : (m n : ℕ) → eqb m n ≡ false → eqb n m ≡ false
turned m n h = go (eqb n m) refl
  where
    go : (t : Bool) → eqb n m ≡ t → eqb n m ≡ false
    go true e = clash (eqb m n) (eq-eqb m n (sym (eqb-true n m e))) h
    go false e = e

pub apart_if : (m n : ℕ) → (m ≡ n → ⊥) → eqb m n ≡ false
apart_if m n f = go (eqb m n) refl
  where
    go : (t : Bool) → eqb m n ≡ t → eqb m n ≡ false
    go true e = absurd (f (eqb-true m n e))
    go false e = e

is_false : (t : Bool) → (t ≡ true → ⊥) → t ≡ false
is_false true f = absurd (f refl)
is_false false f = refl

below_all : (a n m : ℕ) → a < n → n ≤ m → a < m
below_all a n m p q = omega (arith, p, q)

below_next : (a m : ℕ) → a < m → a < suc m
below_next a m p = omega (arith, p)

-- ---- one more name

pub named_at : (f : Var → Var) (x y z : Var) → eqb x.0 z.0 ≡ true → named f x y z ≡ y
named_at f x y z e = λ i. cond (e i) y (f z)

pub named_off : (f : Var → Var) (x y z : Var) → eqb x.0 z.0 ≡ false → named f x y z ≡ f z
named_off f x y z e = λ i. cond (e i) y (f z)

-- what stands for variables of a set is kept apart, and below a number
pub record Good (f : Var → Var) (S : Var → Type 0) (n : ℕ) : Type 0 where
  pub apart : (a b : Var) → S a → S b → eqb (f a).0 (f b).0 ≡ eqb a.0 b.0
  pub below : (a : Var) → S a → (f a).0 < n

pub weaker : (f : Var → Var) (S T : Var → Type 0) (n : ℕ) → ((a : Var) → T a → S a) → Good f S n → Good f T n
weaker f S T n h g = record { apart = λ a b p q. g.apart a b (h a p) (h b q); below = λ a p. g.below a (h a p) }

-- the variable, or one of the set
abbrev pub And : Var → (Var → Type 0) → Var → Type 0
And x S a = (eqb x.0 a.0 ≡ true) ⊎ S a

-- one of the list, or of the set
abbrev pub Those : List Var → (Var → Type 0) → Var → Type 0
Those xs S a = (is_in a xs ≡ true) ⊎ S a

module _ (f : Var → Var) (S : Var → Type 0) (n m : ℕ) (x : Var) (g : Good f S n) (l : n ≤ m) (off : (a : Var) → S a → eqb x.0 a.0 ≡ false) where
  kept : (a : Var) → S a → named f x (variable m) a ≡ f a
  kept a s = named_off f x (variable m) a (off a s)

  low : (a : Var) → S a → (f a).0 < m
  low a s = below_all (f a).0 n m (g.below a s) l

  both : (a b : Var) → And x S a → And x S b → eqb (named f x (variable m) a).0 (named f x (variable m) b).0 ≡ eqb a.0 b.0
  both a b (inl p) (inl q) =
      (λ i. eqb (named_at f x (variable m) a p i).0 (named_at f x (variable m) b q i).0) ∙ eq-eqb m m refl
      ∙ sym (eq-eqb a.0 b.0 (sym (eqb-true x.0 a.0 p) ∙ eqb-true x.0 b.0 q))
  both a b (inl p) (inr t) =
      (λ i. eqb (named_at f x (variable m) a p i).0 (kept b t i).0) ∙ eqb_above m (f b).0 (low b t)
      ∙ sym ((λ i. eqb (sym (eqb-true x.0 a.0 p) i) b.0) ∙ off b t)
  both a b (inr s) (inl q) =
      (λ i. eqb (kept a s i).0 (named_at f x (variable m) b q i).0) ∙ eqb_below (f a).0 m (low a s)
      ∙ sym ((λ i. eqb a.0 (sym (eqb-true x.0 b.0 q) i)) ∙ turned x.0 a.0 (off a s))
  both a b (inr s) (inr t) = (λ i. eqb (kept a s i).0 (kept b t i).0) ∙ g.apart a b s t

  under : (a : Var) → And x S a → (named f x (variable m) a).0 < suc m
  under a (inl p) = subst (λ (v : Var). v.0 < suc m) (sym (named_at f x (variable m) a p)) (omega arith)
  under a (inr s) = subst (λ (v : Var). v.0 < suc m) (sym (kept a s)) (below_next (f a).0 m (low a s))

  pub named_good : Good (named f x (variable m)) (And x S) (suc m)
  named_good = record { apart = both; below = under }

-- ---- a list of names

first_or : (x a : Var) (xs : List Var) (S : Var → Type 0) → Those (x ∷ xs) S a → Those xs (And x S) a
first_or x a xs S (inr s) = inr (inr s)
first_or x a xs S (inl p) = go (eqb x.0 a.0) refl p
  where
    go : (t : Bool) → eqb x.0 a.0 ≡ t → (t || is_in a xs) ≡ true → Those xs (And x S) a
    go true e q = inr (inl e)
    go false e q = inl q

none_of : (a : Var) (S : Var → Type 0) → Those [] S a → S a
none_of a S (inl e) = clash false e refl
none_of a S (inr s) = s

off_first : (x : Var) (xs : List Var) (S : Var → Type 0) → ((a : Var) → is_in a (x ∷ xs) ≡ true → S a → ⊥) → (a : Var) → S a → eqb x.0 a.0 ≡ false
off_first x xs S off a s = is_false (eqb x.0 a.0) (λ e. off a (λ i. e i || is_in a xs) s)

off_rest : (x : Var) (xs : List Var) (S : Var → Type 0) → is_in x xs ≡ false → ((a : Var) → is_in a (x ∷ xs) ≡ true → S a → ⊥) → (a : Var) → is_in a xs ≡ true → And x S a → ⊥
off_rest x xs S d off a p (inl e) = clash (is_in x xs) ((λ i. is_in (same_number x a e i) xs) ∙ p) d
off_rest x xs S d off a p (inr s) = off a (behind_first a x xs p) s

pub numbered_good :
    (xs : List Var) (f : Var → Var) (S : Var → Type 0) (n : ℕ) → Good f S n → Distinct xs → ((a : Var) → is_in a xs ≡ true → S a → ⊥) →
    Good (numbered f xs n) (Those xs S) (n + length xs)
numbered_good [] f S n g d off =
    let same : n ≡ n + 0 = omega arith in
    subst (Good f (Those [] S)) same (weaker f S (Those [] S) n (λ a. none_of a S) g)
numbered_good (x ∷ xs) f S n g d off =
    let same : suc n + length xs ≡ n + suc (length xs) = omega arith in
    let one = named_good f S n n x g (omega arith) (off_first x xs S off) in
    let rest = numbered_good xs (named f x (variable n)) (And x S) (suc n) one d.1 (off_rest x xs S d.0 off) in
    subst (Good (numbered (named f x (variable n)) xs (suc n)) (Those (x ∷ xs) S)) same
    (weaker (numbered (named f x (variable n)) xs (suc n)) (Those xs (And x S)) (Those (x ∷ xs) S) (suc n + length xs) (λ a. first_or x a xs S) rest)

pub components_good :
    (xs : List Var) (f : Var → Var) (S : Var → Type 0) (n : ℕ) → Good f S n → Distinct xs → ((a : Var) → is_in a xs ≡ true → S a → ⊥) →
    Good (component_names f xs n) (Those xs S) (n + (length xs + length xs))
components_good [] f S n g d off =
    let same : n ≡ n + 0 = omega arith in
    subst (Good f (Those [] S)) same (weaker f S (Those [] S) n (λ a. none_of a S) g)
components_good (x ∷ xs) f S n g d off =
    let same : suc (suc n) + (length xs + length xs) ≡ n + (suc (length xs) + suc (length xs)) = omega arith in
    let one = named_good f S n (suc n) x g (omega arith) (off_first x xs S off) in
    let rest = components_good xs (named f x (variable (suc n))) (And x S) (suc (suc n)) one d.1 (off_rest x xs S d.0 off) in
    subst (Good (component_names (named f x (variable (suc n))) xs (suc (suc n))) (Those (x ∷ xs) S)) same
    (weaker (component_names (named f x (variable (suc n))) xs (suc (suc n))) (Those xs (And x S)) (Those (x ∷ xs) S) (suc (suc n) + (length xs + length xs)) (λ a. first_or x a xs S) rest)

-- ---- which variable stands for one

pub numbered_off : (xs : List Var) (f : Var → Var) (n : ℕ) (z : Var) → is_in z xs ≡ false → numbered f xs n z ≡ f z
numbered_off [] f n z h = refl
numbered_off (x ∷ xs) f n z h =
    let w = or_false (eqb x.0 z.0) (is_in z xs) h in
    numbered_off xs (named f x (variable n)) (suc n) z w.1 ∙ named_off f x (variable n) z w.0

pub components_off : (xs : List Var) (f : Var → Var) (n : ℕ) (z : Var) → is_in z xs ≡ false → component_names f xs n z ≡ f z
components_off [] f n z h = refl
components_off (x ∷ xs) f n z h =
    let w = or_false (eqb x.0 z.0) (is_in z xs) h in
    components_off xs (named f x (variable (suc n))) (suc (suc n)) z w.1 ∙ named_off f x (variable (suc n)) z w.0

-- the variables of the list are numbered in order
pub numbered_order : (xs : List Var) (f : Var → Var) (n : ℕ) → Distinct xs → AreFrom n (map (numbered f xs n) xs)
numbered_order [] f n d = tt
numbered_order (x ∷ xs) f n d = (
  ap (λ (v : Var). v.0) (numbered_off xs (named f x (variable n)) (suc n) x d.0 ∙ named_at f x (variable n) x (eq-eqb x.0 x.0 refl)),
  numbered_order xs (named f x (variable n)) (suc n) d.1,
)

-- each second number is that of a component
abbrev pub AreComponents : (Var → Var) → List Var → ℕ → Type 0
AreComponents f [] n = Unit {0}
AreComponents f (x ∷ xs) n = (f x ≡ variable (suc n)) × AreComponents f xs (suc (suc n))

pub components_order : (xs : List Var) (f : Var → Var) (n : ℕ) → Distinct xs → AreComponents (component_names f xs n) xs n
components_order [] f n d = tt
components_order (x ∷ xs) f n d = (
  components_off xs (named f x (variable (suc n))) (suc (suc n)) x d.0 ∙ named_at f x (variable (suc n)) x (eq-eqb x.0 x.0 refl),
  components_order xs (named f x (variable (suc n))) (suc (suc n)) d.1,
)

pub components_same : (xs : List Var) (f g : Var → Var) (n : ℕ) → ((x : Var) → is_in x xs ≡ true → g x ≡ f x) → AreComponents f xs n → AreComponents g xs n
components_same [] f g n h c = tt
components_same (x ∷ xs) f g n h c = (h x (itself x xs) ∙ c.0, components_same xs f g (suc (suc n)) (λ y p. h y (behind_first y x xs p)) c.1)

-- ---- lists in order

pub order_append : (n : ℕ) (xs ys : List Var) → AreFrom n xs → AreFrom (n + length xs) ys → AreFrom n (xs ++ ys)
order_append n [] ys p q = subst (λ m. AreFrom m ys) (omega arith) q
order_append n (x ∷ xs) ys p q = (p.0, order_append (suc n) xs ys p.1 (subst (λ m. AreFrom m ys) (omega arith) q))
