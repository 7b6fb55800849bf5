-- One step of a call.
use Rattle.std.proofs.Common.{◌≡◌, ℕ, zero, suc, ◌-◌, ◌<◌, List, [], ◌∷◌, length, get_or, true, false, refl, sym, ap, ◌∙◌, arith, Some, None, Ok, Err, Vec, Global, Option}
use Rattle.std.specs.Prelude.{slice_get, if◌then◌else◌}
use Rattle.std.proofs.lemmas.Option.{slice_get-get_or}
use Rattle.sac_base.specs.declared.site.Site.{Site}
use Rattle.sac_base.specs.declared.base.Base.{Base}
use Rattle.sac_base.specs.declared.faults.FaultKind.TheVariants.{F7, F10}
use Rattle.sac_base.specs.Arrays.{ArrayValue}
use Rattle.sac_ast.specs.declared.Function.{Function}
use Rattle.sac_ast.specs.Tree.{Expr, FunctionTree}
use Rattle.sac_ast.specs.View.{functions, function}
use Rattle.sac_ast.specs.View.{block, exprs}
use Rattle.source_meaning.specs.declared.environment.Binding.{Binding}
use Rattle.source_meaning.specs.declared.environment.Environment.{Environment, roll-Environment, fold-roll-Environment}
use Rattle.value_meaning.specs.declared.evaluate.Context.{Context}
use Rattle.source_meaning.specs.Environments.{env_of, env_step, env_of_bindings, over}
use Rattle.source_meaning.specs.Parameters.{names_of_params, types_of_params}
use Rattle.value_meaning.specs.Evaluation.{block_in, meanings_in, function_in, meaning_in, cell_in, main_at}
use Rattle.sac_base.specs.Types.{all_have}
use Rattle.sac_base.specs.Outcomes.{Ends, Env, fault, and_then, no_variables, with_variables}
use Rattle.array_ops.proofs.Steps.{value_then}
use Rattle.source_meaning.specs.Calls.{RunMeaning, body_of, call_by, run_chosen, run_inline, run_deeper, results_in, call_at, outcome_of}
use Rattle.sac_ast.specs.Bases.{base_in}
use Rattle.sac_ast.specs.View.{expr, index_view}
use Rattle.sac_ast.specs.declared.Generator.{Generator}
use Rattle.sac_base.specs.declared.faults.Caps.{Caps}
use Rattle.std.specs.Prelude.{ℤ}
use Rattle.std.specs.Borrow.{Bor}
use Rattle.source_meaning.specs.Meaning.{with_index}

pub length-functions : (fs : List Function) → length (functions fs) ≡ length fs
length-functions [] = refl
length-functions (f ∷ fs) = ap suc (length-functions fs)

get_or-functions : (fs : List Function) (i : ℕ) (d : Function) → get_or (functions fs) i (function d) ≡ function (get_or fs i d)
get_or-functions [] i d = refl
get_or-functions (f ∷ fs) zero d = refl
get_or-functions (f ∷ fs) (suc i) d = get_or-functions fs i d

pub function_at : (fs : List Function) (i : ℕ) (d : Function) → i < length fs → slice_get (functions fs) i ≡ Some (function (get_or fs i d))
function_at fs i d h =
    let within : i < length (functions fs) = omega (arith, length-functions fs) in
    slice_get-get_or (functions fs) i (function d) within ∙ ap Some (get_or-functions fs i d)

module _ (fs : List FunctionTree) (turns : ℕ) (base_of : FunctionTree → Expr → Option Base) (place : ℕ) (f : FunctionTree) (args : List ArrayValue) (site : Site) (here : slice_get fs place ≡ Some f) where
  pub runs_inline : (outer : RunMeaning) (nest : ℕ) → 0 < nest → f.inline ≡ true → run_chosen fs outer (run_inline fs turns base_of outer nest) place (slice_get fs place) args site ≡ body_of turns base_of (call_by fs outer (run_inline fs turns base_of outer (nest - 1))) (Some f) args site
  runs_inline outer zero h inline = absurd (omega arith)
  runs_inline outer (suc nest) h inline =
      let same : nest ≡ suc nest - 1 = omega arith in
      let run = run_inline fs turns base_of outer (suc nest) in
      ap (λ o. run_chosen fs outer run place o args site) here
      ∙ ap (λ b. if b then run place args site else outer place args site) inline
      ∙ ap (λ o. body_of turns base_of (call_by fs outer (run_inline fs turns base_of outer nest)) o args site) here
      ∙ ap (λ n. body_of turns base_of (call_by fs outer (run_inline fs turns base_of outer n)) (Some f) args site) same

  pub runs_deeper : (inner : RunMeaning) (left count : ℕ) → 0 < left → count ≡ length fs → f.inline ≡ false → run_chosen fs (run_deeper fs turns base_of left) inner place (slice_get fs place) args site ≡ body_of turns base_of (call_by fs (run_deeper fs turns base_of (left - 1)) (run_inline fs turns base_of (run_deeper fs turns base_of (left - 1)) count)) (Some f) args site
  runs_deeper inner zero count h all inline = absurd (omega arith)
  runs_deeper inner (suc left) count h all inline =
      let same : left ≡ suc left - 1 = omega arith in
      let outer = run_deeper fs turns base_of (suc left) in
      ap (λ o. run_chosen fs outer inner place o args site) here
      ∙ ap (λ b. if b then inner place args site else outer place args site) inline
      ∙ ap (λ o. body_of turns base_of (call_by fs (run_deeper fs turns base_of left) (run_inline fs turns base_of (run_deeper fs turns base_of left) (length fs))) o args site) here
      ∙ ap (λ n. body_of turns base_of (call_by fs (run_deeper fs turns base_of left) (run_inline fs turns base_of (run_deeper fs turns base_of left) n)) (Some f) args site) (sym all)
      ∙ ap (λ l. body_of turns base_of (call_by fs (run_deeper fs turns base_of l) (run_inline fs turns base_of (run_deeper fs turns base_of l) count)) (Some f) args site) same

  pub too_deep : (inner : RunMeaning) (left : ℕ) → left ≡ 0 → f.inline ≡ false → run_chosen fs (run_deeper fs turns base_of left) inner place (slice_get fs place) args site ≡ fault F10 site
  too_deep inner left none inline =
      ap (λ o. run_chosen fs (run_deeper fs turns base_of left) inner place o args site) here
      ∙ ap (λ b. if b then inner place args site else run_deeper fs turns base_of left place args site) inline
      ∙ ap (λ l. run_deeper fs turns base_of l place args site) none

-- ---- the body of a function

-- no variables are bound at its start
pub no_bindings : (v : Vec Binding Global) → v.items ≡ [] → env_of (roll-Environment (record { outer = None; bindings = v })) ≡ no_variables
no_bindings v e = fold-roll-Environment Env env_step (record { outer = None; bindings = v }) ∙ ap (λ items. over (env_of_bindings items) no_variables) e

-- and in an inner scope none but those of the outer one
pub no_inner_bindings : (env : Bor Environment) (v : Vec Binding Global) → v.items ≡ [] → env_of (roll-Environment (record { outer = Some env; bindings = v })) ≡ env_of env.now
no_inner_bindings env v e = fold-roll-Environment Env env_step (record { outer = Some env; bindings = v }) ∙ ap (λ items. over (env_of_bindings items) (env_of env.now)) e

value_or : {A : Type 0} → A → Ends A → A
value_or a (Ok b) = b
value_or a (Err f) = a

pub same_value : {A : Type 0} (a b : A) → ◌≡◌ {A = Ends A} (Ok a) (Ok b) → a ≡ b
unfolding value_or
same_value a b e = ap (value_or a) e

pub function_steps : (context : Context) (args : List ArrayValue) (start last : Env) → with_variables (names_of_params context.current.now.params.items) args no_variables ≡ start → block_in context (block context.current.now.body.items) start ≡ Ok last → function_in context args ≡ and_then (meanings_in context (exprs context.current.now.values.items) last) (results_in context.current.now.results.items context.current.now.ends)
function_steps context args start last e b =
    let rest = λ (env : Env). and_then (meanings_in context (exprs context.current.now.values.items) env) (results_in context.current.now.results.items context.current.now.ends) in
    ap (λ env. and_then (block_in context (block context.current.now.body.items) env) rest) e
    ∙ value_then (block_in context (block context.current.now.body.items) start) rest last b

pub cell_steps : (context : Context) (g : Generator) (v : List ℤ) (env start last : Env) → with_index (index_view g.index) v env ≡ start → block_in context (block g.body.items) start ≡ Ok last → cell_in context g v env ≡ meaning_in context (expr g.cell) last
cell_steps context g v env start last e b =
    ap (λ env. and_then (block_in context (block g.body.items) env) (meaning_in context (expr g.cell))) e
    ∙ value_then (block_in context (block g.body.items) start) (meaning_in context (expr g.cell)) last b

-- what `main` gives, where its arguments fit
pub main_steps : (fs : List Function) (place : ℕ) (f : Function) (args : List ArrayValue) (caps : Caps) (end : Site) (count : ℕ) → slice_get (functions fs) place ≡ Some (function f) → all_have (types_of_params f.params.items) args ≡ true → count ≡ length fs → main_at fs place args caps end ≡ body_of caps.turns (base_in (functions fs)) (call_by (functions fs) (run_deeper (functions fs) caps.turns (base_in (functions fs)) caps.depth) (run_inline (functions fs) caps.turns (base_in (functions fs)) (run_deeper (functions fs) caps.turns (base_in (functions fs)) caps.depth) count)) (Some (function f)) args f.site
main_steps fs place f args caps end count here fits e =
    let body = λ (n : ℕ). body_of caps.turns (base_in (functions fs)) (call_by (functions fs) (run_deeper (functions fs) caps.turns (base_in (functions fs)) caps.depth) (run_inline (functions fs) caps.turns (base_in (functions fs)) (run_deeper (functions fs) caps.turns (base_in (functions fs)) caps.depth) n)) (Some (function f)) args f.site in
    let all : length (functions fs) ≡ count = length-functions fs ∙ sym e in
    ap (λ o. outcome_of (functions fs) (base_in (functions fs)) caps args end o) here
    ∙ ap (λ b. if b then body (length (functions fs)) else fault F7 f.site) fits
    ∙ ap body all

pub main_misfit : (fs : List Function) (place : ℕ) (f : Function) (args : List ArrayValue) (caps : Caps) (end : Site) → slice_get (functions fs) place ≡ Some (function f) → all_have (types_of_params f.params.items) args ≡ false → main_at fs place args caps end ≡ fault F7 f.site
main_misfit fs place f args caps end here fits =
    ap (λ o. outcome_of (functions fs) (base_in (functions fs)) caps args end o) here
    ∙ ap (λ b. if b then body_of caps.turns (base_in (functions fs)) (call_at (functions fs) caps.turns (base_in (functions fs)) caps.depth) (Some (function f)) args f.site else fault F7 f.site) fits
