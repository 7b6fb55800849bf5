-- What was stored and gathered, after one more position was written.
use Rattle.std.proofs.Common.{◌≡◌, ◌≢◌, ℕ, ◌<◌, Bool, true, false, cond, eqb, ℤ, List, [], ◌∷◌, ◌++◌, length, Option, None, Some, refl, sym, ap, ◌∙◌, ⊎_elim}
use Rattle.std.proofs.lemmas.Bool.{eq-eqb, ne_eqb, cases_eq}
use Rattle.sac_base.specs.Verdict.{combined, present}
use Rattle.wl_core.specs.declared.setup.Job.{Job}
use Rattle.wl_core.specs.declared.setup.Job.TheVariants.{Write as Store, Fold}
use Rattle.wl_core.specs.Facts.{cell_at, own, partial_by, stored_by}
use Rattle.wl_core.specs.Machine.{SetupValue, TakesBase, both, combine, gather, listed, put, store}
use Rattle.wl_core.proofs.Combining.{adds, gathered, gathered_is, same}
use Rattle.wl_core.proofs.FoldLaws.{foldable, elementwise-foldable}
use Rattle.wl_core.proofs.Functions.{put_same, put_other}

own_same : (w : ℕ) (value : Option (List ℤ)) → own w (w ∷ []) value ≡ value
own_same w value = let t : eqb w w ≡ true = eq-eqb w w refl in ap (λ (b : Bool). cond b value None) t

own_other : (w v : ℕ) (value : Option (List ℤ)) → v ≢ w → own v (w ∷ []) value ≡ None
own_other w v value ne = let f : eqb w v ≡ false = ne_eqb w v (λ e. ne (sym e)) in ap (λ (b : Bool). cond b value None) f

-- these workers wrote the positions before
module _ (u : SetupValue) (written : ℕ → List ℕ) where
  pub stored_more : (stored : ℕ → Option (List ℤ)) (j : Job) (q w : ℕ) (value : Option (List ℤ)) → written q ≡ [] → cell_at u q ≡ value → ((p : ℕ) → stored p ≡ stored_by j (written p) (cell_at u p))
      → (p : ℕ) → store j stored q value p ≡ stored_by j (put written q (written q ++ w ∷ []) p) (cell_at u p)
  stored_more stored Store q w value empty cell old p = ⊎_elim
      (λ (e : p ≡ q). put_same stored q value p e ∙ sym cell ∙ ap (cell_at u) (sym e) ∙ sym (ap (λ (l : List ℕ). stored_by Store l (cell_at u p)) (put_same written q (written q ++ w ∷ []) p e ∙ ap (λ (l : List ℕ). l ++ w ∷ []) empty)))
      (λ (ne : p ≢ q). put_other stored q value p ne ∙ old p ∙ sym (ap (λ (l : List ℕ). stored_by Store l (cell_at u p)) (put_other written q (written q ++ w ∷ []) p ne)))
      (cases_eq p q)
  stored_more stored (Fold base op) q w value empty cell old p = old p

  -- what the worker v wrote, after w wrote the position q
  own_after : (q w v : ℕ) (value : Option (List ℤ)) → written q ≡ [] → cell_at u q ≡ value → (p : ℕ)
      → own v (put written q (written q ++ w ∷ []) p) (cell_at u p) ≡ put (λ p. own v (written p) (cell_at u p)) q (own v (w ∷ []) value) p
  own_after q w v value empty cell p = ⊎_elim
      (λ (e : p ≡ q). (λ j. own v ((put_same written q (written q ++ w ∷ []) p e ∙ ap (λ (l : List ℕ). l ++ w ∷ []) empty) j) ((ap (cell_at u) e ∙ cell) j)) ∙ sym (put_same (λ p. own v (written p) (cell_at u p)) q (own v (w ∷ []) value) p e))
      (λ (ne : p ≢ q). ap (λ (l : List ℕ). own v l (cell_at u p)) (put_other written q (written q ++ w ∷ []) p ne) ∙ sym (put_other (λ p. own v (written p) (cell_at u p)) q (own v (w ∷ []) value) p ne))
      (cases_eq p q)

  pub partials_more : (partial : ℕ → Option (List ℤ)) (j : Job) (q w : ℕ) (value : Option (List ℤ)) → TakesBase j → q < length u.cells → written q ≡ [] → cell_at u q ≡ value → ((v : ℕ) → partial v ≡ partial_by j (listed (λ p. own v (written p) (cell_at u p)) (length u.cells)))
      → (v : ℕ) → gather j partial w value v ≡ partial_by j (listed (λ p. own v (put written q (written q ++ w ∷ []) p) (cell_at u p)) (length u.cells))
  partials_more partial Store q w value takes lt empty cell old v = old v
  partials_more partial (Fold base op) q w value takes lt empty cell old v =
      let f : ℕ → Option (List ℤ) = λ p. own v (written p) (cell_at u p) in
      let f' : ℕ → Option (List ℤ) = λ p. own v (put written q (written q ++ w ∷ []) p) (cell_at u p) in
      let n = length u.cells in
      let laws = elementwise-foldable _ (foldable base op takes) in
      let none : f q ≡ None = ap (λ (l : List ℕ). own v l (cell_at u q)) empty in
      let now : combined (combine op) (present (listed f' n)) ≡ both (combine op) (gathered (combine op) f n) (own v (w ∷ []) value) =
      gathered_is (combine op) f' n ∙ same (combine op) f' (put f q (own v (w ∷ []) value)) n (λ p l. own_after q w v value empty cell p) ∙ adds (combine op) laws f q (own v (w ∷ []) value) n lt none in
      let was : partial v ≡ gathered (combine op) f n = old v ∙ gathered_is (combine op) f n in
      ⊎_elim
      (λ (e : v ≡ w). put_same partial w (both (combine op) (partial w) value) v e ∙ (λ j. both (combine op) ((ap partial (sym e) ∙ was) j) ((sym (own_same w value) ∙ ap (λ (k : ℕ). own k (w ∷ []) value) (sym e)) j)) ∙ sym now)
      (λ (ne : v ≢ w). put_other partial w (both (combine op) (partial w) value) v ne ∙ was ∙ sym (now ∙ ap (λ (x : Option (List ℤ)). both (combine op) (gathered (combine op) f n) x) (own_other w v value ne) ∙ both-none (gathered (combine op) f n)))
      (cases_eq v w)
    where
      both-none : (x : Option (List ℤ)) → both (combine op) x None ≡ x
      both-none None = refl
      both-none (Some x) = refl
