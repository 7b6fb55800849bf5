-- Whole programs with marks.
use Rattle.std.proofs.Common.{◌≡◌, ℕ, List, [], ◌∷◌, map, length, All, refl, ap, ◌∙◌, sym, subst}
use Rattle.core_ir.specs.Terms.{FunTerm, CoreTerm}
use Rattle.core_ir.specs.WellFormed.{IsWellFormed}
use Rattle.counted_code.specs.Counts.{CountedFunction, CountedFunctions, IsWellCounted, group_results}
use Rattle.counted_code.specs.Outcome.{code_param_vars}
use Rattle.counted_code.specs.Prompt.{Prompt, PromptFunctions, IsPrompt}
use Rattle.counted_code.specs.Terms.{CodeFunTerm, CodeProgram, core_of_fun, core_of_code, core_of}
use Rattle.counted_laws.specs.mark_places.Places.{MarkedFunction, MarkedFunctions, MarkedCode}
use Rattle.counted_laws.proofs.mark_places.Cores.{core_same}
use Rattle.counted_laws.proofs.mark_places.Counts.{marked_counted}
use Rattle.counted_laws.proofs.mark_places.Prompts.{marked_prompt}

function_core : (f g : CodeFunTerm) → MarkedFunction f g → core_of_fun g ≡ core_of_fun f
function_core f g m = ap core_of_fun m.same ∙ (λ i. record { name = f.name; site = f.site; params = f.params; results = f.results; is_inline = f.is_inline; body = core_same m.body i; ends = f.ends })

functions_core : (fs gs : List CodeFunTerm) → MarkedFunctions fs gs → map core_of_fun gs ≡ map core_of_fun fs
functions_core [] [] m = refl
functions_core (f ∷ fs) (g ∷ gs) m = λ i. function_core f g m.0 i ∷ functions_core fs gs m.1 i
functions_core [] (g ∷ gs) m = elim m [ ]
functions_core (f ∷ fs) [] m = elim m [ ]

pub code_core : (a b : CodeProgram) → MarkedCode a b → core_of_code b ≡ core_of_code a
code_core a b m = λ i. record { functions = functions_core a.functions b.functions m.functions i; groups = m.groups i; main = m.main i }

function_counted : (results_of : ℕ → ℕ) (f g : CodeFunTerm) → MarkedFunction f g → CountedFunction results_of f → CountedFunction results_of g
function_counted results_of f g m c =
    subst (CountedFunction results_of) (sym m.same) (c.0, marked_counted results_of m.body (length f.results) [] (code_param_vars f) c.1)

functions_counted : (results_of : ℕ → ℕ) (fs gs : List CodeFunTerm) → MarkedFunctions fs gs → CountedFunctions results_of fs → CountedFunctions results_of gs
functions_counted results_of [] [] m c = tt
functions_counted results_of (f ∷ fs) (g ∷ gs) m c = (function_counted results_of f g m.0 c.0, functions_counted results_of fs gs m.1 c.1)
functions_counted results_of [] (g ∷ gs) m c = elim m [ ]
functions_counted results_of (f ∷ fs) [] m c = elim m [ ]

pub code_counted : (a b : CodeProgram) → MarkedCode a b → IsWellCounted a → IsWellCounted b
code_counted a b m c = record {
  core = subst IsWellFormed (sym (code_core a b m)) c.core;
  functions = subst (λ (k : CoreTerm). CountedFunctions (group_results k) b.functions) (sym (code_core a b m)) (functions_counted (group_results (core_of_code a)) a.functions b.functions m.functions c.functions);
}

function_prompt : (results_of : ℕ → ℕ) (f g : CodeFunTerm) → MarkedFunction f g → Prompt results_of [] [] [] (code_param_vars f) f.body → Prompt results_of [] [] [] (code_param_vars g) g.body
function_prompt results_of f g m c =
    subst (λ (h : CodeFunTerm). Prompt results_of [] [] [] (code_param_vars h) h.body) (sym m.same) (marked_prompt results_of m.body [] [] [] (code_param_vars f) c)

functions_prompt : (results_of : ℕ → ℕ) (fs gs : List CodeFunTerm) → MarkedFunctions fs gs → PromptFunctions results_of fs → PromptFunctions results_of gs
functions_prompt results_of [] [] m c = tt
functions_prompt results_of (f ∷ fs) (g ∷ gs) m c = (function_prompt results_of f g m.0 c.0, functions_prompt results_of fs gs m.1 c.1)
functions_prompt results_of [] (g ∷ gs) m c = elim m [ ]
functions_prompt results_of (f ∷ fs) [] m c = elim m [ ]

pub code_prompt : (a b : CodeProgram) → MarkedCode a b → IsPrompt a → IsPrompt b
code_prompt a b m c =
    subst (λ (k : CoreTerm). PromptFunctions (group_results k) b.functions) (sym (code_core a b m)) (functions_prompt (group_results (core_of_code a)) a.functions b.functions m.functions c)
