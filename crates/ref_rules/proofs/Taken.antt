-- Steps through lists of variables.
use Rattle.std.proofs.Common.{◌≡◌, ℕ, ◌+◌, ◌<◌, Bool, true, false, cond, eqb, List, [], ◌∷◌, ◌++◌, length, drop, refl, ap, ◌∙◌, sym, add-one}
use Rattle.std.specs.Prelude.{slice_index_or}
use lib.Seq.{drop-cons}
use Rattle.core_ir.specs.declared.tree.Var.{Var}
use Rattle.core_ir.specs.Binders.{is_in}
use Rattle.counted_laws.specs.placing.Placing.{without, surplus}
use Rattle.counted_laws.proofs.placing.Lists.{or_none}

-- the element at a place, and the rest
pub drop_here : {A : Type 0} (xs : List A) (i : ℕ) (d : A) → i < length xs → drop i xs ≡ slice_index_or xs i d ∷ drop (i + 1) xs
drop_here xs i d lt = drop-cons xs i d lt ∙ (λ j. slice_index_or xs i d ∷ drop (sym (add-one i) j) xs)

pub without_none : (x : Var) (xs : List Var) → is_in x xs ≡ false → without x xs ≡ xs
without_none x [] p = refl
without_none x (y ∷ ys) p = ap (λ b. cond b ys (y ∷ without x ys)) (or_none (eqb y.0 x.0) (is_in x ys) p).0 ∙ ap (λ zs. y ∷ zs) (without_none x ys (or_none (eqb y.0 x.0) (is_in x ys) p).1)

append_assoc : (xs ys zs : List Var) → (xs ++ ys) ++ zs ≡ xs ++ (ys ++ zs)
append_assoc [] ys zs = refl
append_assoc (x ∷ xs) ys zs = ap (λ l. x ∷ l) (append_assoc xs ys zs)

-- one place of those that may need a reference more
pub more_needed : (whole here rest free left more next : List Var) (x : Var) (there : Bool) → here ≡ x ∷ rest → there ≡ is_in x free → left ≡ without x free → next ≡ cond there more (more ++ (x ∷ [])) → more ++ surplus here free ≡ whole → next ++ surplus rest left ≡ whole
more_needed whole here rest free left more next x there h t l n was = go there t n
  where
    go : (b : Bool) → b ≡ is_in x free → next ≡ cond b more (more ++ (x ∷ [])) → next ++ surplus rest left ≡ whole
    go true e m =
        (λ i. m i ++ surplus rest (l i)) ∙ ap (λ b. more ++ cond b (surplus rest (without x free)) (x ∷ surplus rest free)) e ∙ ap (λ ys. more ++ surplus ys free) (sym h) ∙ was
    go false e m =
        (λ i. m i ++ surplus rest ((l ∙ without_none x free (sym e)) i)) ∙ append_assoc more (x ∷ []) (surplus rest free)
        ∙ ap (λ b. more ++ cond b (surplus rest (without x free)) (x ∷ surplus rest free)) e ∙ ap (λ ys. more ++ surplus ys free) (sym h) ∙ was

pub added : (more next : List Var) (x : Var) (there : Bool) → next ≡ more ++ (x ∷ []) → there ≡ false → next ≡ cond there more (more ++ (x ∷ []))
added more next x there e other = e ∙ ap (λ b. cond b more (more ++ (x ∷ []))) (sym other)

pub not_added : (more next : List Var) (x : Var) (there : Bool) → next ≡ more → there ≡ true → next ≡ cond there more (more ++ (x ∷ []))
not_added more next x there e is = e ∙ ap (λ b. cond b more (more ++ (x ∷ []))) (sym is)
