-- The functions of a core, one after another.
use Rattle.std.proofs.Common.{◌≡◌, List, [], ◌∷◌, ◌++◌, map, refl, sym, ap, ◌∙◌, append_assoc, append-nil}
use Rattle.core_ir.specs.declared.tree.CoreFun.{CoreFun}
use Rattle.core_ir.specs.Terms.{FunTerm}
use Rattle.core_ir.specs.View.{fun_term}

map_snoc : (xs : List CoreFun) (x : CoreFun) → map fun_term (xs ++ (x ∷ [])) ≡ map fun_term xs ++ (fun_term x ∷ [])
map_snoc [] x = refl
map_snoc (y ∷ ys) x = ap (λ l. fun_term y ∷ l) (map_snoc ys x)

module _ (change : FunTerm → FunTerm) where
  -- a function more is changed
  pub function_turn : (done done' before rest : List CoreFun) (x y : CoreFun) (whole : List FunTerm) → map fun_term done ++ map change (map fun_term before) ≡ whole → before ≡ x ∷ rest → done' ≡ done ++ (y ∷ []) → fun_term y ≡ change (fun_term x)
      → map fun_term done' ++ map change (map fun_term rest) ≡ whole
  function_turn done done' before rest x y whole p b d new =
      let others = map change (map fun_term rest) in
      (λ i. map fun_term (d i) ++ others)
      ∙ ap (λ z. z ++ others) (map_snoc done y)
      ∙ append_assoc (map fun_term done) (fun_term y ∷ []) others
      ∙ (λ i. map fun_term done ++ (new i ∷ others))
      ∙ (λ i. map fun_term done ++ map change (map fun_term (sym b i)))
      ∙ p

  pub all_done : (done rest before all : List CoreFun) → map fun_term done ++ map change (map fun_term rest) ≡ map change (map fun_term before) → rest ≡ [] → before ≡ all → map fun_term done ≡ map change (map fun_term all)
  all_done done rest before all p r e =
      sym (append-nil (map fun_term done))
      ∙ (λ i. map fun_term done ++ map change (map fun_term (sym r i)))
      ∙ p
      ∙ (λ i. map change (map fun_term (e i)))
