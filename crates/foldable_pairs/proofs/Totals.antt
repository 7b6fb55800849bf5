-- Whether all parts are total.
use Rattle.std.proofs.Common.{◌≡◌, ◌↔◌, IsTrue, ℕ, ◌+◌, ◌<◌, ◌≤◌, Bool, true, false, List, [], ◌∷◌, length, drop, get_or, refl, sym, ap, subst, ◌∙◌, Option, Some, None}
use Rattle.std.specs.Prelude.{unwrap_or}
use Rattle.std.proofs.lemmas.List.{drop_more, drop_all}
use Rattle.core_ir.specs.declared.tree.CorePart.{CorePart}
use Rattle.core_ir.specs.View.{part_term}
use Rattle.core_facts.specs.Facts.{Fact, Facts}
use Rattle.core_loops.specs.Pairs.{TotalParts, one_scalar}
use Rattle.total_cells.specs.Totals.{known_if}
use Rattle.foldable_pairs.specs.Parts.{terms}
use Rattle.foldable_pairs.specs.Pairs.{GivesScalar}

never : {P : Type 0} (b : Bool) → b ≡ true → b ≡ false → P
never b p q = absurd (let e : true ≡ false = sym p ∙ q in cc)

-- ---- one body

pub is_known : (t : Bool) (fs gs : List Fact) → Some fs ≡ known_if t gs → (t ≡ true) × (fs ≡ gs)
is_known true fs gs e = (refl, ap (λ (o : Option (List Fact)). unwrap_or o []) e)
is_known false fs gs e = absurd (let q : ◌≡◌ {A = Option (List Fact)} (Some fs) None = e in cc)

pub is_unknown : (t : Bool) (gs : List Fact) → None ≡ known_if t gs → t ≡ false
is_unknown true gs e = absurd (let q : ◌≡◌ {A = Option (List Fact)} None (Some gs) = e in cc)
is_unknown false gs e = refl

pub scalar_some : (b t : Bool) (fs gs : List Fact) → Some fs ≡ known_if t gs → b ≡ one_scalar fs → IsTrue b ↔ ((t ≡ true) × (one_scalar gs ≡ true))
scalar_some b t fs gs e r =
    let w = is_known t fs gs e in
    (λ h. (w.0, ap one_scalar (sym w.1) ∙ sym r ∙ h), λ h. r ∙ ap one_scalar w.1 ∙ h.1)

pub scalar_none : (t : Bool) (gs : List Fact) → None ≡ known_if t gs → IsTrue false ↔ ((t ≡ true) × (one_scalar gs ≡ true))
scalar_none t gs e = (λ h. absurd (let q : ◌≡◌ {A = Bool} false true = h in cc), λ h. never t h.0 (is_unknown t gs e))

-- ---- part by part

next_is : (xs : List CorePart) (i : ℕ) (x : CorePart) → i < length xs → x ≡ get_or xs i x → drop i xs ≡ x ∷ drop (i + 1) xs
next_is xs i x low is = drop_more xs i x low ∙ ap (λ y. y ∷ drop (i + 1) xs) (sym is)

module _ (called : ℕ → List (Option (List ℕ))) (k : Facts) where
  abbrev pub Total : List CorePart → Type 0
  Total parts = TotalParts called k (terms parts)

  abbrev pub Gives : CorePart → Type 0
  Gives x = GivesScalar called k (part_term x).head.grid (part_term x).head.index (part_term x).body

  module _ (parts : List CorePart) (i : ℕ) (x : CorePart) (low : i < length parts) (is : x ≡ get_or parts i x) where
    pub total_on : Gives x → (Total (drop i parts) → Total parts) → Total (drop (i + 1) parts) → Total parts
    total_on g on rest = on (subst Total (sym (next_is parts i x low is)) (g.0, g.1, rest))

    pub total_back : (Total parts → Total (drop i parts)) → Total parts → Total (drop (i + 1) parts)
    total_back back whole = (subst Total (next_is parts i x low is) (back whole)).2

    pub total_none : (Gives x → ⊥) → (Total parts → Total (drop i parts)) → Total parts → ⊥
    total_none none back whole = let w = subst Total (next_is parts i x low is) (back whole) in none (w.0, w.1)

  pub total_end : (parts : List CorePart) (i : ℕ) → length parts ≤ i → (Total (drop i parts) → Total parts) → Total parts
  total_end parts i past on = on (subst Total (sym (drop_all i parts past)) tt)
