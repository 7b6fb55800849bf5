-- Arrays that are written over are bound outside of the cells, which hold no reference to them.
use Rattle.std.proofs.Common.{◌≡◌, Bool, true, false, eqb, List, [], ◌∷◌, ◌++◌, refl, sym, subst, ◌∙◌, true≢false, inl, inr}
use Rattle.std.specs.Prelude.{◌||◌}
use Rattle.core_ir.specs.declared.tree.Var.{Var}
use Rattle.core_ir.specs.Binders.{is_in, NoneIn}
use Rattle.core_ir.proofs.Variables.{same_number}
use Rattle.counted_code.specs.Counts.{Reordered}
use Rattle.counted_laws.proofs.placing.Lists.{here, in_front, in_back, in_either, none_at, or_either}
use Rattle.counted_laws.proofs.placing.Orders.{reversed, reordered_in}

abbrev pub Kept : (Var → Bool) → List Var → List Var → Type 0
Kept over outer refs = (v : Var) → over v ≡ true → (is_in v outer ≡ true) × (is_in v refs ≡ true → ⊥)

opposite : {b : Bool} → b ≡ true → b ≡ false → ⊥
opposite p q = true≢false (sym p ∙ q)

-- the references of a right side
pub kept_right : (over : Var → Bool) (outer refs mine after : List Var) → Kept over outer refs → Reordered refs (mine ++ after) → Kept over (after ++ outer) mine
kept_right over outer refs mine after kept order v h =
    let k = kept v h in (in_back v after outer k.0, (λ p. k.1 (reordered_in (reversed order) v (in_front v mine after p))))

-- after a binding
pub kept_rest : (over : Var → Bool) (outer refs mine after xs : List Var) → Kept over outer refs → Reordered refs (mine ++ after) → NoneIn xs (after ++ outer) → Kept over outer (xs ++ after)
kept_rest over outer refs mine after xs kept order none v h =
    let k = kept v h in (
      k.0,
      (λ p. elim (in_either v xs after p) [
        | inl q ↦ opposite (in_back v after outer k.0) (none_at xs (after ++ outer) v none q)
        | inr q ↦ k.1 (reordered_in (reversed order) v (in_back v mine after q))
      ]),
    )

-- after a Keep of another variable, and after a Release
pub kept_more : (over : Var → Bool) (outer refs : List Var) (x : Var) → Kept over outer refs → over x ≡ false → Kept over outer (x ∷ refs)
kept_more over outer refs x kept other v h =
    let k = kept v h in (
      k.0,
      (λ p. elim (or_either (eqb x.0 v.0) (is_in v refs) p) [
        | inl q ↦ opposite h (subst (λ y. over y ≡ false) (same_number x v q) other)
        | inr q ↦ k.1 q
      ]),
    )

pub kept_less : (over : Var → Bool) (outer refs after : List Var) (x : Var) → Kept over outer refs → Reordered refs (x ∷ after) → Kept over outer after
kept_less over outer refs after x kept order v h =
    let k = kept v h in (k.0, (λ p. k.1 (reordered_in (reversed order) v (in_back v (x ∷ []) after p))))

-- in a block with new variables
pub kept_fresh : (over : Var → Bool) (outer refs xs : List Var) → Kept over outer refs → NoneIn xs outer → Kept over outer xs
kept_fresh over outer refs xs kept none v h =
    let k = kept v h in (k.0, (λ p. opposite k.0 (none_at xs outer v none p)))

-- where more variables come from outside
pub kept_outside : (over : Var → Bool) (outer refs xs : List Var) → Kept over outer refs → Kept over (xs ++ outer) []
kept_outside over outer refs xs kept v h =
    let k = kept v h in (in_back v xs outer k.0, (λ p. opposite p refl))

-- what a mark stands for is not written over yet
pub not_yet : (over : Var → Bool) (outer mine : List Var) (w : Var) → Kept over outer mine → Reordered mine (w ∷ []) → over w ≡ false
not_yet over outer mine w kept order = go (over w) refl
  where
    go : (b : Bool) → over w ≡ b → over w ≡ false
    go true h = elim ((kept w h).1 (reordered_in (reversed order) w (here w []))) [ ]
    go false h = h

-- one more array is written over, whose reference the loop has
pub kept_over : (over : Var → Bool) (outer mine : List Var) (w index : Var) → Kept over outer mine → Reordered mine (w ∷ []) → is_in index (mine ++ outer) ≡ false → Kept (λ y. eqb w.0 y.0 || over y) (mine ++ outer) (index ∷ [])
kept_over over outer mine w index kept order fresh v h =
    let inside : is_in v (mine ++ outer) ≡ true = elim (or_either (eqb w.0 v.0) (over v) h) [
      | inl q ↦ in_front v mine outer (reordered_in (reversed order) v (subst (λ y. is_in y (w ∷ []) ≡ true) (same_number w v q) (here w [])))
      | inr q ↦ in_back v mine outer (kept v q).0
    ] in
    (inside, (λ p. opposite inside (none_at (index ∷ []) (mine ++ outer) v (fresh, tt) p)))
