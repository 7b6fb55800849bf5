-- The functions of a core, one after another.
use Rattle.std.proofs.Common.{◌≡◌, ℕ, length, arith, List, [], ◌∷◌, ◌++◌, map, Option, refl, sym, ap, subst, ◌∙◌, append_assoc, append-nil}
use Rattle.core_ir.specs.declared.tree.CoreFun.{CoreFun}
use Rattle.core_ir.specs.Terms.{FunTerm}
use Rattle.core_ir.specs.View.{fun_term}
use Rattle.scalarise.specs.Scalarised.{FunctionMerged, AllMerged}

map_snoc : (xs : List CoreFun) (x : CoreFun) → map fun_term (xs ++ (x ∷ [])) ≡ map fun_term xs ++ (fun_term x ∷ [])
map_snoc [] x = refl
map_snoc (y ∷ ys) x = ap (λ l. fun_term y ∷ l) (map_snoc ys x)

-- an iterator at its end has no more items
pub none_left : {A : Type 0} (len : ℕ) (items : List A) → len ≡ 0 → len ≡ length items → items ≡ []
none_left len [] p q = refl
none_left len (x ∷ xs) p q = absurd (omega arith)

module _ (calls : ℕ → List (Option (List ℕ))) where
  -- whatever the rest becomes, it goes behind those made so far
  abbrev pub SoFar : List FunTerm → List FunTerm → ℕ → List FunTerm → Type 0
  SoFar all made n rest = (gs : List FunTerm) (m : ℕ) → AllMerged calls n rest gs m → AllMerged calls 0 all (made ++ gs) m

  pub none_made : (made : List CoreFun) (n : ℕ) (all : List FunTerm) → made ≡ [] → n ≡ 0 → SoFar all (map fun_term made) n all
  none_made made n all e z = subst (λ (ys : List CoreFun). SoFar all (map fun_term ys) n all) (sym e) (subst (λ (k : ℕ). SoFar all [] k all) (sym z) (λ gs m w. w))

  -- a function more is walked through
  pub function_turn : (made more before rest : List CoreFun) (x y : CoreFun) (all : List FunTerm) (n k : ℕ) → SoFar all (map fun_term made) n (map fun_term before) → before ≡ x ∷ rest →
      more ≡ made ++ (y ∷ []) → FunctionMerged calls n k (fun_term x) (fun_term y) → SoFar all (map fun_term more) k (map fun_term rest)
  function_turn made more before rest x y all n k p b d h = λ gs m w.
      let new : map fun_term more ++ gs ≡ map fun_term made ++ (fun_term y ∷ gs) =
      (λ i. map fun_term (d i) ++ gs) ∙ ap (λ z. z ++ gs) (map_snoc made y) ∙ append_assoc (map fun_term made) (fun_term y ∷ []) gs in
      let one : AllMerged calls n (map fun_term before) (fun_term y ∷ gs) m =
      subst (λ (xs : List CoreFun). AllMerged calls n (map fun_term xs) (fun_term y ∷ gs) m) (sym b) (k, (h, w)) in
      subst (λ (ys : List FunTerm). AllMerged calls 0 all ys m) (sym new) (p (fun_term y ∷ gs) m one)

  pub all_made : (made rest before all : List CoreFun) (n : ℕ) → SoFar (map fun_term before) (map fun_term made) n (map fun_term rest) → rest ≡ [] → before ≡ all →
      AllMerged calls 0 (map fun_term all) (map fun_term made) n
  all_made made rest before all n p r e =
      let last : AllMerged calls n (map fun_term rest) [] n = subst (λ (xs : List CoreFun). AllMerged calls n (map fun_term xs) [] n) (sym r) refl in
      subst (λ (xs : List CoreFun). AllMerged calls 0 (map fun_term xs) (map fun_term made) n) e
      (subst (λ (ys : List FunTerm). AllMerged calls 0 (map fun_term before) ys n) (append-nil (map fun_term made)) (p [] n last))
