-- The walk over a program finds the earliest of its violations.
use Rattle.std.proofs.Common.{◌≡◌, ℕ, ◌+◌, ◌<◌, List, [], ◌∷◌, ◌++◌, length, take, drop, get_or, not, Option, refl, sym, ap, ◌∙◌}
use Rattle.std.specs.Prelude.{◌==◌, flat_map}
use Rattle.std.proofs.lemmas.List.{drop_more}
use Rattle.sac_base.specs.declared.site.Site.{Site}
use Rattle.check_rules.specs.declared.code.CheckCode.TheVariants.{C3, C4, C6, C8}
use Rattle.sac_ast.specs.declared.Function.{Function}
use Rattle.sac_ast.specs.Tree.{FunctionTree, ProgramTree}
use Rattle.sac_ast.specs.View.{function, functions}
use Rattle.check_rules.specs.Accepted.{Place, with_names, no_names, bound_behind, param_names, known_params, none_known, names_in, values_fit, is_named, main_name, may_stand_together, violations}
use Rattle.check_rules.specs.Accepted as a
use Rattle.check_rules.specs.Walk as w
use Rattle.check_rules.specs.Programs.{stands_with, mains, main_counted, inline_mains, one_function, in_functions, in_program}
use Rattle.check_rules.specs.declared.violation.Violation.{Violation}
use Rattle.check_rules.specs.First.{earlier, unless, first_of}
use Rattle.check_rules.proofs.Earliest.{earlier_grouped}
use Rattle.check_rules.proofs.Positions.{next_functions}
use Rattle.type_check.proofs.Same.{joined, one, and_then_one, behind, repeated_params_is, block_is, values_is}

pub function_is : (fs before : List FunctionTree) (f : FunctionTree) → w.in_function fs before f ≡ first_of (a.in_function fs before f)
function_is fs before f =
    let place : Place = record { functions = fs; before = before; inline = f.inline; listed = names_in f } in
    let start = with_names (param_names f.params) no_names in
    let known = known_params f.params none_known in
    let body = a.in_block place f.body start known in
    let values = a.in_values place f.values (bound_behind f.body start) body.known in
    let twice = a.repeated_params f.params in
    let first = block_is place f.body start known in
    let second = ap (λ (r : w.Walked). w.in_values place f.values (bound_behind f.body start) r.known) first ∙ values_is place f.values (bound_behind f.body start) body.known in
    (λ i. earlier (earlier (earlier (earlier (repeated_params_is no_names f.params i) (first i).first) (second i).first)
    (unless (length (second i).bases == length f.results) C3 f.ends)) (unless (values_fit (second i).bases f.results) C4 f.ends))
    ∙ and_then_one _ (twice ++ body.violations ++ values.violations ++ a.unless (length values.bases == length f.results) C3 f.ends) (values_fit values.bases f.results) C4 f.ends
    (and_then_one _ (twice ++ body.violations ++ values.violations) (length values.bases == length f.results) C3 f.ends
    (behind _ (twice ++ body.violations) values.violations (joined twice body.violations)))

functions_are : (fs before rest : List FunctionTree) → in_functions fs before rest ≡ first_of (a.in_functions fs before rest)
functions_are fs before [] = refl
functions_are fs before (f ∷ rest) =
    let clash = a.clash_rules before f in
    let inside = a.in_function fs before f in
    let later = a.in_functions fs (before ++ f ∷ []) rest in
    (λ i. earlier (earlier (one (stands_with f before) C6 f.site i) (function_is fs before f i)) (functions_are fs (before ++ f ∷ []) rest i))
    ∙ behind _ (clash ++ inside) later (joined clash inside)

counted_is : (gs : List FunctionTree) (end : Site) → main_counted gs end ≡ first_of (a.main_count gs end)
counted_is [] end = refl
counted_is (g ∷ []) end = refl
counted_is (g ∷ h ∷ gs) end = refl

inline_is : (gs : List FunctionTree) → inline_mains gs ≡ first_of (flat_map (λ (g : FunctionTree). a.unless (not g.inline) C8 g.site) gs)
inline_is [] = refl
inline_is (g ∷ gs) =
    (λ i. earlier (one (not g.inline) C8 g.site i) (inline_is gs i)) ∙ joined (a.unless (not g.inline) C8 g.site) (flat_map (λ (g : FunctionTree). a.unless (not g.inline) C8 g.site) gs)

pub program_is : (p : ProgramTree) → in_program p ≡ first_of (violations p)
program_is p =
    let count = a.main_count (mains p.functions) p.end in
    let inline = flat_map (λ (g : FunctionTree). a.unless (not g.inline) C8 g.site) (mains p.functions) in
    let all = a.in_functions p.functions [] p.functions in
    (λ i. earlier (functions_are p.functions [] p.functions i) (earlier (counted_is (mains p.functions) p.end i) (inline_is (mains p.functions) i)))
    ∙ ap (earlier (first_of all)) (joined count inline)
    ∙ joined all (count ++ inline)

-- one step of the loop over the functions
pub functions_step : (acc found : Option Violation) (fs : List Function) (k : ℕ) (f : Function) → k < length fs → f ≡ get_or fs k f
    → found ≡ one_function (functions fs) (functions (take k fs)) (function f)
    → earlier (earlier acc found) (in_functions (functions fs) (functions (take (k + 1) fs)) (functions (drop (k + 1) fs))) ≡ earlier acc (in_functions (functions fs) (functions (take k fs)) (functions (drop k fs)))
functions_step acc found fs k f h at e =
    let all = functions fs in
    let before = functions (take k fs) in
    let rest = functions (drop (k + 1) fs) in
    let longer = next_functions fs k f h ∙ ap (λ x. before ++ function x ∷ []) (sym at) in
    earlier_grouped acc found (in_functions all (functions (take (k + 1) fs)) rest)
    ∙ (λ i. earlier acc (earlier (e i) (in_functions all (longer i) rest)))
    ∙ ap (λ gs. earlier acc (in_functions all before (functions gs))) (sym (drop_more fs k f h ∙ ap (λ x. x ∷ drop (k + 1) fs) (sym at)))
