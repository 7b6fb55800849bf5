-- One turn of the loop over the functions, and its end.
use Rattle.std.proofs.Common.{◌≡◌, ℕ, ◌+◌, List, [], ◌∷◌, map, length, refl, sym, ◌∙◌, arith}
use Rattle.std.specs.List.{sum}
use Rattle.std.proofs.lemmas.List.Sums.{sum_by-cons}
use Rattle.core_ir.specs.declared.tree.CoreFun.{CoreFun}
use Rattle.core_ir.specs.Terms.{FunTerm}
use Rattle.core_ir.specs.View.{fun_term}

-- an iterator with nothing left
pub none_left : {A : Type 0} (len : ℕ) (items : List A) → len ≡ 0 → len ≡ length items → items ≡ []
none_left len [] p q = refl
none_left len (x ∷ xs) p q = absurd (omega arith)

-- a function more is counted
plus_assoc : (a b c : ℕ) → (a + b) + c ≡ a + (b + c)
plus_assoc a b c = omega arith

pub count_turn : (each : FunTerm → ℕ) (before rest : List CoreFun) (x : CoreFun) (n n' more whole : ℕ) → n + sum (map each (map fun_term before)) ≡ whole → before ≡ x ∷ rest → n' ≡ n + more → more ≡ each (fun_term x)
    → n' + sum (map each (map fun_term rest)) ≡ whole
count_turn each before rest x n n' more whole p b q m =
    let others = sum (map each (map fun_term rest)) in
    (λ i. q i + others) ∙ (λ i. (n + m i) + others) ∙ plus_assoc n (each (fun_term x)) others ∙ (λ i. n + sym (sum_by-cons (λ (m : ℕ). m) (each (fun_term x)) (map each (map fun_term rest))) i) ∙ (λ i. n + sum (map each (map fun_term (sym b i)))) ∙ p

plus_none : (n : ℕ) → n ≡ n + 0
plus_none n = omega arith

pub count_end : (each : FunTerm → ℕ) (rest before all : List CoreFun) (n : ℕ) → n + sum (map each (map fun_term rest)) ≡ sum (map each (map fun_term before)) → rest ≡ [] → before ≡ all → n ≡ sum (map each (map fun_term all))
count_end each rest before all n p r e = plus_none n ∙ (λ i. n + sum (map each (map fun_term (sym r i)))) ∙ p ∙ (λ i. sum (map each (map fun_term (e i))))
