-- The results of a group, by the functions that the code holds.
use Rattle.std.proofs.Common.{◌≡◌, ℕ, zero, suc, List, [], ◌∷◌, map, length, Some, None, refl, ap, ◌∙◌}
use Rattle.std.specs.Prelude.{option_map, slice_get}
use Rattle.core_ir.specs.Terms.{FunTerm}
use Rattle.counted_code.specs.declared.tree.CodeFun.{CodeFun}
use Rattle.counted_code.specs.Counts.{results_among, results_or}
use Rattle.counted_code.specs.Terms.{core_of_fun}
use Rattle.counted_code.specs.View.{code_fun_term}

abbrev pub function_terms : List CodeFun → List FunTerm
function_terms fs = map core_of_fun (map code_fun_term fs)

term_at : (fs : List CodeFun) (i : ℕ) → slice_get (function_terms fs) i ≡ option_map (λ f. core_of_fun (code_fun_term f)) (slice_get fs i)
term_at [] i = refl
term_at (f ∷ fs) zero = refl
term_at (f ∷ fs) (suc i) = term_at fs i

-- the first instance is there
pub first_found : (fs : List CodeFun) (here more : List ℕ) (place : ℕ) (f : CodeFun) → here ≡ place ∷ more → slice_get fs place ≡ Some f → results_among (function_terms fs) here ≡ length f.results.items
first_found fs here more place f e is =
    ap (results_among (function_terms fs)) e ∙ ap (λ o. results_or o (results_among (function_terms fs) more)) (term_at fs place ∙ ap (option_map (λ f. core_of_fun (code_fun_term f))) is)

-- it is not, so the next one counts
pub next_found : (fs : List CodeFun) (here more : List ℕ) (place : ℕ) → here ≡ place ∷ more → slice_get fs place ≡ None → results_among (function_terms fs) here ≡ results_among (function_terms fs) more
next_found fs here more place e is =
    ap (results_among (function_terms fs)) e ∙ ap (λ o. results_or o (results_among (function_terms fs) more)) (term_at fs place ∙ ap (option_map (λ f. core_of_fun (code_fun_term f))) is)
