-- Variables in lists, and their bases.
use Rattle.std.proofs.Common.{◌≡◌, ℕ, ◌≤◌, Bool, true, false, ◌||◌, cond, eqb, List, [], ◌∷◌, ◌++◌, map, All, Option, Some, None, refl, sym, ap, subst, ◌∙◌, inr}
use Rattle.std.specs.Prelude.{zip}
use Rattle.sac_base.specs.declared.base.Base.{Base}
use Rattle.core_ir.specs.declared.tree.Var.{Var}
use Rattle.core_ir.specs.Binders.{is_in}
use Rattle.core_ir.specs.Scopes.{AllIn}
use Rattle.core_ir.specs.WellFormed.{Bases, base_of, Distinct}
use Rattle.core_ir.proofs.Variables.{in_more, or_false, same_number}
use Rattle.core_forms.specs.edits.Within.{AreWithin, BasesWithin}
use Rattle.core_loops.specs.norm_steps.Step.{BaseTable, Within}
use Rattle.core_forms.proofs.inlined_bodies.Names.{Fresh, Names, clash, not_in, in_none, in_left, distinct_apart}
use Rattle.core_forms.specs.norm.Fresh.{IsBetween}
use Rattle.core_forms.proofs.norm.Places.{all_member}
use Rattle.core_forms.proofs.norm.Scopes.{Away, in_right}

-- ---- scopes

pub all_within : (xs scope wider : List Var) → AreWithin scope wider → AllIn xs scope → AllIn xs wider
all_within [] scope wider k h = tt
all_within (x ∷ xs) scope wider k h = (k x h.0, all_within xs scope wider k h.1)

pub within_below : (xs scope wider : List Var) → AreWithin scope wider → AreWithin (xs ++ scope) (xs ++ wider)
within_below xs scope wider k y h = in_more y xs wider ∙ go (is_in y xs) (sym (in_more y xs scope) ∙ h)
  where
    go : (b : Bool) → (b || is_in y scope) ≡ true → (b || is_in y wider) ≡ true
    go true p = refl
    go false p = k y p

pub within_behind : (xs scope wider : List Var) → AreWithin scope wider → AreWithin scope (xs ++ wider)
within_behind xs scope wider k y h = in_right y xs wider (k y h)

pub away_below : (xs ys wider : List Var) → Distinct (xs ++ ys) → Away (xs ++ ys) wider → Away ys (xs ++ wider)
away_below xs ys wider d h = λ y p. in_none y xs wider (not_in y xs (λ q. clash (is_in y ys) p (distinct_apart xs ys d y q))) (h y (in_right y xs ys p))

-- new variables are in no list of old ones
pub new_away : (low high : ℕ) (xs zs : List Var) → All (IsBetween low high) xs → Fresh zs low → Away xs zs
new_away low high xs zs a f y h = f y (all_member (IsBetween low high) xs y a h).0

-- new variables in the place of others
pub new_names : (low high : ℕ) (old new : List Var) → Distinct new → All (IsBetween low high) new → Names old new low high
new_names low high old new d a = record { within = λ y h. inr (all_member (IsBetween low high) new y a h); once = λ o f. d }

pub gone_names : (xs : List Var) (low : ℕ) → Names xs [] low low
gone_names xs low = record { within = λ y h. clash false h refl; once = λ d f. tt }

-- ---- bases

no_base : (o : Option Base) (t : Base) → o ≡ None → o ≡ Some t → ⊥
no_base o t p q = let r : ◌≡◌ {A = Option Base} None (Some t) = sym p ∙ q in cc

-- a variable that has no base may get one
pub bases_more : (g wider : Bases) (x : Var) (u : Base) → base_of wider x ≡ None → BasesWithin g wider → BasesWithin g ((x, u) ∷ wider)
bases_more g wider x u n k y t h = go (eqb x.0 y.0) refl
  where
    go : (b : Bool) → eqb x.0 y.0 ≡ b → cond (eqb x.0 y.0) (Some u) (base_of wider y) ≡ Some t
    go true e = absurd (no_base (base_of wider x) t n ((λ i. base_of wider (same_number x y e i)) ∙ k y t h))
    go false e = (λ i. cond (e i) (Some u) (base_of wider y)) ∙ k y t h

pub bases_both : (g wider : Bases) (x : Var) (u : Base) → BasesWithin g wider → BasesWithin ((x, u) ∷ g) ((x, u) ∷ wider)
bases_both g wider x u k y t h = go (eqb x.0 y.0) h
  where
    go : (b : Bool) → cond b (Some u) (base_of g y) ≡ Some t → cond b (Some u) (base_of wider y) ≡ Some t
    go true h = h
    go false h = k y t h

pub bases_zip : (xs : List Var) (us : List Base) (g wider : Bases) → BasesWithin g wider → BasesWithin (zip xs us ++ g) (zip xs us ++ wider)
bases_zip [] us g wider k = k
bases_zip (x ∷ xs) [] g wider k = k
bases_zip (x ∷ xs) (u ∷ us) g wider k = bases_both (zip xs us ++ g) (zip xs us ++ wider) x u (bases_zip xs us g wider k)

-- a variable may get the base of the table
pub table_more : (m : BaseTable) (g wider : Bases) (x : Var) (u : Base) → Within m g → u ≡ m x → BasesWithin g wider → BasesWithin g ((x, u) ∷ wider)
table_more m g wider x u w e k y t h = go (eqb x.0 y.0) refl
  where
    go : (b : Bool) → eqb x.0 y.0 ≡ b → cond (eqb x.0 y.0) (Some u) (base_of wider y) ≡ Some t
    go true q = (λ i. cond (q i) (Some u) (base_of wider y)) ∙ ap Some (e ∙ ap m (same_number x y q) ∙ sym (w y t h))
    go false q = (λ i. cond (q i) (Some u) (base_of wider y)) ∙ k y t h

table_all : (m : BaseTable) (xs : List Var) (g wider : Bases) → Within m g → BasesWithin g wider → BasesWithin g (zip xs (map m xs) ++ wider)
table_all m [] g wider w k = k
table_all m (x ∷ xs) g wider w k = table_more m g (zip xs (map m xs) ++ wider) x (m x) w refl (table_all m xs g wider w k)

pub table_zip : (m : BaseTable) (xs : List Var) (us : List Base) (g wider : Bases) → Within m g → us ≡ map m xs → BasesWithin g wider → BasesWithin g (zip xs us ++ wider)
table_zip m xs us g wider w e k = subst (λ (ts : List Base). BasesWithin g (zip xs ts ++ wider)) (sym e) (table_all m xs g wider w k)

pub zip_keeps : (xs : List Var) (us : List Base) (g : Bases) (y : Var) → is_in y xs ≡ false → base_of (zip xs us ++ g) y ≡ base_of g y
zip_keeps [] us g y h = refl
zip_keeps (x ∷ xs) [] g y h = refl
zip_keeps (x ∷ xs) (u ∷ us) g y h =
    let w = or_false (eqb x.0 y.0) (is_in y xs) h in
    (λ i. cond (w.0 i) (Some u) (base_of (zip xs us ++ g) y)) ∙ zip_keeps xs us g y w.1

-- the variables of the list from the number on have no base
abbrev pub Bare : ℕ → List Var → Bases → Type 0
Bare low xs g = (y : Var) → is_in y xs ≡ true → low ≤ y.0 → base_of g y ≡ None

pub bare_left : (low : ℕ) (xs ys : List Var) (g : Bases) → Bare low (xs ++ ys) g → Bare low xs g
bare_left low xs ys g h y p l = h y (in_left y xs ys p) l

pub bare_right : (low : ℕ) (xs ys : List Var) (g : Bases) → Bare low (xs ++ ys) g → Bare low ys g
bare_right low xs ys g h y p l = h y (in_right y xs ys p) l

pub bare_below : (low : ℕ) (xs ys : List Var) (us : List Base) (g : Bases) → Distinct (xs ++ ys) → Bare low (xs ++ ys) g → Bare low ys (zip xs us ++ g)
bare_below low xs ys us g d h y p l = zip_keeps xs us g y (not_in y xs (λ q. clash (is_in y ys) p (distinct_apart xs ys d y q))) ∙ h y (in_right y xs ys p) l
