-- The functions of a core, one after another.
use Rattle.std.proofs.Common.{◌≡◌, ℕ, suc, ◌+◌, true, eqb, length, arith, List, [], ◌∷◌, ◌++◌, map, Option, refl, sym, ap, subst, ◌∙◌, append_assoc, append-nil}
use Rattle.std.proofs.lemmas.Bool.{eqb-true}
use Rattle.core_ir.specs.declared.tree.CoreFun.{CoreFun}
use Rattle.core_ir.specs.Terms.{FunTerm}
use Rattle.core_ir.specs.View.{fun_term}
use Rattle.fold_walk.specs.declared.state.Fold.{Fold}
use Rattle.wl_folding.specs.Folded.{FunctionWalked, AllWalked}

map_snoc : (xs : List CoreFun) (x : CoreFun) → map fun_term (xs ++ (x ∷ [])) ≡ map fun_term xs ++ (fun_term x ∷ [])
map_snoc [] x = refl
map_snoc (y ∷ ys) x = ap (λ l. fun_term y ∷ l) (map_snoc ys x)

-- an iterator at its end has no more items
pub none_left : {A : Type 0} (len : ℕ) (items : List A) → len ≡ 0 → len ≡ length items → items ≡ []
none_left len [] p q = refl
none_left len (x ∷ xs) p q = absurd (omega arith)

-- an empty vector has no items
pub empty : {A : Type 0} (len : ℕ) (items : List A) → eqb len 0 ≡ true → len ≡ length items → items ≡ []
empty len items e p = none_left len items (eqb-true len 0 e) p

one_more : (place next : ℕ) → next ≡ place + 1 → next ≡ suc place
one_more place next e = omega (arith, e)

module _ (calls : ℕ → List (Option (List ℕ))) where
  -- whatever the rest becomes, it goes behind those walked so far
  abbrev pub SoFar : List FunTerm → List FunTerm → ℕ → List Fold → List FunTerm → Type 0
  SoFar all done place folds rest = (gs : List FunTerm) (after : List Fold) → AllWalked calls place folds rest gs after → AllWalked calls 0 [] all (done ++ gs) after

  pub none_walked : (done : List CoreFun) (place : ℕ) (folds : List Fold) (all : List FunTerm) → done ≡ [] → place ≡ 0 → folds ≡ [] → SoFar all (map fun_term done) place folds all
  none_walked done place folds all e z n =
      subst (λ (ys : List CoreFun). SoFar all (map fun_term ys) place folds all) (sym e)
      (subst (λ (k : ℕ). SoFar all [] k folds all) (sym z) (subst (λ (l : List Fold). SoFar all [] 0 l all) (sym n) (λ gs after w. w)))

  -- a function more is walked through
  pub function_turn : (done more before rest : List CoreFun) (x y : CoreFun) (all : List FunTerm) (place next : ℕ) (folds longer : List Fold) → SoFar all (map fun_term done) place folds (map fun_term before)
      → before ≡ x ∷ rest → more ≡ done ++ (y ∷ []) → next ≡ place + 1 → FunctionWalked calls place folds longer (fun_term x) (fun_term y) → SoFar all (map fun_term more) next longer (map fun_term rest)
  function_turn done more before rest x y all place next folds longer p b d n h = λ gs after w.
      let new : map fun_term more ++ gs ≡ map fun_term done ++ (fun_term y ∷ gs) =
      (λ i. map fun_term (d i) ++ gs) ∙ ap (λ z. z ++ gs) (map_snoc done y) ∙ append_assoc (map fun_term done) (fun_term y ∷ []) gs in
      let following : AllWalked calls (suc place) longer (map fun_term rest) gs after = subst (λ (k : ℕ). AllWalked calls k longer (map fun_term rest) gs after) (one_more place next n) w in
      let one : AllWalked calls place folds (map fun_term before) (fun_term y ∷ gs) after =
      subst (λ (xs : List CoreFun). AllWalked calls place folds (map fun_term xs) (fun_term y ∷ gs) after) (sym b) (longer, (h, following)) in
      subst (λ (ys : List FunTerm). AllWalked calls 0 [] all ys after) (sym new) (p (fun_term y ∷ gs) after one)

  pub all_walked : (done rest before all : List CoreFun) (place : ℕ) (folds : List Fold) → SoFar (map fun_term before) (map fun_term done) place folds (map fun_term rest) → rest ≡ [] → before ≡ all
      → AllWalked calls 0 [] (map fun_term all) (map fun_term done) folds
  all_walked done rest before all place folds p r e =
      let last : AllWalked calls place folds (map fun_term rest) [] folds = subst (λ (xs : List CoreFun). AllWalked calls place folds (map fun_term xs) [] folds) (sym r) refl in
      subst (λ (xs : List CoreFun). AllWalked calls 0 [] (map fun_term xs) (map fun_term done) folds) e
      (subst (λ (ys : List FunTerm). AllWalked calls 0 [] (map fun_term before) ys folds) (append-nil (map fun_term done)) (p [] folds last))
