-- The copy of a body whose index and bound variables have new numbers.
use Rattle.std.proofs.Common.{◌≡◌, ℕ, suc, ◌+◌, ◌<◌, ◌≤◌, Bool, true, false, not, ◌&&◌, ◌||◌, eqb, List, [], ◌∷◌, ◌++◌, length, All, refl, sym, ap, subst, ◌∙◌, ◌⊎◌, inl, inr, arith}
use Rattle.std.specs.Prelude.{if◌then◌else◌}
use Rattle.std.proofs.lemmas.Bool.{eq-eqb}
use Rattle.core_ir.specs.declared.tree.Var.{Var}
use Rattle.core_ir.specs.Binders.{is_in, bound_in}
use Rattle.core_ir.specs.Renaming.{under, Renamed}
use Rattle.core_ir.specs.Scopes.{Scoped}
use Rattle.core_ir.specs.Terms.{BlockTerm}
use Rattle.core_ir.specs.WellFormed.{Distinct}
use Rattle.core_ir.proofs.Variables.{same_number}
use Rattle.core_subst.specs.Names.{variable}
use Rattle.core_subst.specs.copy.Mapped.{mapped}
use Rattle.core_subst.proofs.copy.Renaming.{bound_mapped}
use Rattle.core_forms.proofs.edits.Wider.{bound_new}
use Rattle.core_forms.proofs.inlined_bodies.Names.{clash, in_either, in_left, itself, none_at, not_in}
use Rattle.core_loops.specs.Steps as loops
use Rattle.core_forms.specs.norm.Copied.{AreFrom}
use Rattle.core_forms.proofs.norm.Copies.{copies_renamed}
use Rattle.core_forms.proofs.norm.Places.{all_member}
use Rattle.parted_bodies.specs.Numbering.{named, numbered}
use Rattle.dense_variables.proofs.numbered.Numbered.{Good, And, Those, apart_if, named_at, named_good, named_off, numbered_good, numbered_off, numbered_order}

or_later : {P : Type 0} (a b : Bool) → (a || b) ≡ true → (a ≡ true → P) → (b ≡ true → P) → P
or_later true b e f g = f refl
or_later false b e f g = g e

-- the variable itself, or one with a number from m on
abbrev pub IsSameOrNew : ℕ → Var → Var → Type 0
IsSameOrNew m x y = (y ≡ x) ⊎ (m ≤ y.0)

itself_most : (n : ℕ) → n ≤ n
itself_most n = omega arith

later_most : (m n : ℕ) → m ≤ n → m ≤ suc n
later_most m n h = omega (arith, h)

named_same_or_new : (f : Var → Var) (x y : Var) (m n : ℕ) → m ≤ n → IsSameOrNew m x (f x) → IsSameOrNew m x (named f y (variable n) x)
named_same_or_new f x y m n l h = go (eqb y.0 x.0) refl
  where
    go : (t : Bool) → eqb y.0 x.0 ≡ t → IsSameOrNew m x (named f y (variable n) x)
    go true e = inr (subst (λ (v : Var). m ≤ v.0) (sym (named_at f y (variable n) x e)) l)
    go false e = subst (λ (v : Var). IsSameOrNew m x v) (sym (named_off f y (variable n) x e)) h

pub numbered_same_or_new : (xs : List Var) (f : Var → Var) (x : Var) (m n : ℕ) → m ≤ n → IsSameOrNew m x (f x) → IsSameOrNew m x (numbered f xs n x)
numbered_same_or_new [] f x m n l h = h
numbered_same_or_new (y ∷ ys) f x m n l h = numbered_same_or_new ys (named f y (variable n)) x m (suc n) (later_most m n l) (named_same_or_new f x y m n l h)

-- what stands for the variables of a body in its copy
abbrev pub renumbered : Var → BlockTerm → ℕ → Var → Var
renumbered index body n = numbered (named (λ x. x) index (variable n)) (bound_in body) (suc n)

pub same_or_new : (index : Var) (body : BlockTerm) (n : ℕ) (x : Var) → IsSameOrNew n x (renumbered index body n x)
same_or_new index body n x =
    numbered_same_or_new (bound_in body) (named (λ x. x) index (variable n)) x n (suc n) (later_most n n (itself_most n)) (named_same_or_new (λ x. x) x index n n (itself_most n) (inl refl))

-- what is bound is numbered in order
pub copy_order : (index : Var) (body : BlockTerm) (n : ℕ) → Distinct (bound_in body) → AreFrom (suc n) (bound_in (mapped (renumbered index body n) body))
copy_order index body n d =
    subst (AreFrom (suc n)) (sym (bound_mapped (renumbered index body n) body)) (numbered_order (bound_in body) (named (λ x. x) index (variable n)) (suc n) d)

-- ---- a copy is renamed

abbrev In : List Var → Var → Type 0
In xs a = is_in a xs ≡ true

not_new : (low n y : ℕ) → y < low → low ≤ n → n ≡ y → ⊥
not_new low n y p q e = omega (arith, p, q, e)

module _ (scope : List Var) (low : ℕ) (below : All (λ (x : Var). x.0 < low) scope) (index : Var) (body : BlockTerm) (away : is_in index scope ≡ false) (scoped : Scoped (index ∷ scope) body) (once : Distinct (bound_in body)) (n : ℕ) (high : low ≤ n) where
  abbrev bound : List Var
  bound = bound_in body

  abbrev f : Var → Var
  f = renumbered index body n

  in_scope : (a : Var) → is_in a scope ≡ true → a.0 < low
  in_scope a h = all_member (λ (x : Var). x.0 < low) scope a below h

  -- what is in scope stands for itself
  outer_good : Good (λ x. x) (In scope) low
  outer_good = record { apart = λ a b p q. refl; below = in_scope }

  off_index : (a : Var) → is_in a scope ≡ true → eqb index.0 a.0 ≡ false
  off_index a s = apart_if index.0 a.0 (λ p. clash (is_in index scope) ((λ i. is_in (record { 0 = p i }) scope) ∙ s) away)

  index_good : Good (named (λ x. x) index (variable n)) (And index (In scope)) (suc n)
  index_good = named_good (λ x. x) (In scope) low n index outer_good high off_index

  in_all : (a : Var) → And index (In scope) a → is_in a (index ∷ scope) ≡ true
  in_all a (inl e) = λ i. e i || is_in a scope
  in_all a (inr s) = Rattle.core_forms.proofs.inlined_bodies.Names.behind_first a index scope s

  bound_off : (a : Var) → is_in a bound ≡ true → And index (In scope) a → ⊥
  bound_off a h t = clash (is_in a (index ∷ scope)) (in_all a t) (none_at a bound (index ∷ scope) (bound_new body (index ∷ scope) scoped) h)

  whole_good : Good f (Those bound (And index (In scope))) (suc n + length bound)
  whole_good = numbered_good bound (named (λ x. x) index (variable n)) (And index (In scope)) (suc n) index_good once bound_off

  split : (a : Var) → is_in a (bound ++ (index ∷ scope)) ≡ true → Those bound (And index (In scope)) a
  split a h = first (in_either a bound (index ∷ scope) h)
    where
      first : (is_in a bound ≡ true) ⊎ (is_in a (index ∷ scope) ≡ true) → Those bound (And index (In scope)) a
      first (inl p) = inl p
      first (inr p) = inr (or_later (eqb index.0 a.0) (is_in a scope) p (λ e. inl e) (λ q. inr q))

  apart : (x y : Var) → is_in x (bound ++ (index ∷ scope)) ≡ true → is_in y (bound ++ (index ∷ scope)) ≡ true → eqb (f x).0 (f y).0 ≡ eqb x.0 y.0
  apart x y p q = whole_good.apart x y (split x p) (split y q)

  unbound : (x : Var) → And index (In scope) x → is_in x bound ≡ false
  unbound x t = not_in x bound (λ h. bound_off x h t)

  outer_stays : (x : Var) → is_in x scope ≡ true → f x ≡ x
  outer_stays x h = numbered_off bound (named (λ y. y) index (variable n)) (suc n) x (unbound x (inr h)) ∙ named_off (λ y. y) index (variable n) x (off_index x h)

  index_is : f index ≡ variable n
  index_is =
      let own : eqb index.0 index.0 ≡ true = eq-eqb index.0 index.0 refl in
      numbered_off bound (named (λ y. y) index (variable n)) (suc n) index (unbound index (inl own)) ∙ named_at (λ y. y) index (variable n) index own

  links : (x : Var) → is_in x (index ∷ scope) ≡ true → under loops.itself index (variable n) x (f x) ≡ true
  links x h = go (eqb index.0 x.0) refl h
    where
      go : (t : Bool) → eqb index.0 x.0 ≡ t → (t || is_in x scope) ≡ true → (if eqb index.0 x.0 then eqb n (f x).0 else (not (eqb n (f x).0) && eqb x.0 (f x).0)) ≡ true
      go true e m =
          (λ i. if e i then eqb n (f x).0 else (not (eqb n (f x).0) && eqb x.0 (f x).0))
          ∙ eq-eqb n (f x).0 (sym (ap (λ (v : Var). v.0) (ap f (sym (same_number index x e)) ∙ index_is)))
      go false e m =
          (λ i. if e i then eqb n (f x).0 else (not (eqb n (f x).0) && eqb x.0 (f x).0))
          ∙ (λ i. not (eqb n (outer_stays x m i).0) && eqb x.0 (outer_stays x m i).0)
          ∙ (λ i. not (apart_if n x.0 (not_new low n x.0 (in_scope x m) high) i) && eqb x.0 x.0)
          ∙ eq-eqb x.0 x.0 refl

  pub copy_renamed : Renamed (under loops.itself index (variable n)) body (mapped f body)
  copy_renamed = copies_renamed (under loops.itself index (variable n)) f (index ∷ scope) body scoped apart links
