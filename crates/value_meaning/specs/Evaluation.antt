-- The meaning as the evaluator computes it: in the function that runs, with the levels and turns that are left.
use Rattle.std.specs.Prelude.{ℕ, ℤ, Bool, List, Option, Ok, slice_get}
use Rattle.sac_base.specs.declared.site.Site.{Site}
use Rattle.sac_base.specs.declared.base.Base.{Base}
use Rattle.sac_base.specs.declared.faults.Caps.{Caps}
use Rattle.sac_base.specs.Arrays.{ArrayValue}
use Rattle.sac_base.specs.Outcomes.{Ends, Env, and_then, choose, with_variables, no_variables}
use Rattle.sac_base.specs.Parts.{condition}
use Rattle.sac_ast.specs.declared.Function.{Function}
use Rattle.sac_ast.specs.declared.Generator.{Generator}
use Rattle.sac_ast.specs.Tree.{Expr, Exprs, Stmt, Block}
use Rattle.sac_ast.specs.View.{functions, function, expr, index_view}
use Rattle.sac_ast.specs.View
use Rattle.sac_ast.specs.Bases.{base_in}
use Rattle.value_meaning.specs.declared.evaluate.Context.{Context}
use Rattle.source_meaning.specs.Parameters.{names_of_params}
use Rattle.source_meaning.specs.Meaning.{CallMeaning, meaning, meanings, statement, block, repeat, with_index}
use Rattle.source_meaning.specs.Calls.{call_by, run_chosen, run_inline, run_deeper, results_in, outcome_of}

-- what calls mean in a function that runs
abbrev pub calls_in : Context → CallMeaning
calls_in context =
    let fs = functions context.functions.now in
    let outer = run_deeper fs context.turns (base_in fs) context.left in
    call_by fs outer (run_inline fs context.turns (base_in fs) outer context.nest)

abbrev pub bases_in : Context → Expr → Option Base
bases_in context = base_in (functions context.functions.now) (function context.current.now)

abbrev pub meaning_in : Context → Expr → Env → Ends ArrayValue
meaning_in context = meaning context.turns (bases_in context) (calls_in context)

abbrev pub meanings_in : Context → Exprs → Env → Ends (List ArrayValue)
meanings_in context = meanings context.turns (bases_in context) (calls_in context)

abbrev pub statement_in : Context → Stmt → Env → Ends Env
statement_in context = statement context.turns (bases_in context) (calls_in context)

abbrev pub block_in : Context → Block → Env → Ends Env
block_in context = block context.turns (bases_in context) (calls_in context)

abbrev pub repeat_in : Context → ℕ → Site → Site → Expr → Block → Env → Ends Env
repeat_in context left site test_site test body =
    repeat left site test_site (meaning_in context test) (block_in context body)

-- what a test says; one that is no scalar is a fault
abbrev pub test_in : Context → Expr → Site → Env → Ends Bool
test_in context test site env = and_then (meaning_in context test env) (λ c. choose site (condition c) (Ok Bool.true) (Ok Bool.false))

-- what the function at a place gives
abbrev pub run_chosen_in : Context → ℕ → List ArrayValue → Site → Ends (List ArrayValue)
run_chosen_in context place =
    let fs = functions context.functions.now in
    let outer = run_deeper fs context.turns (base_in fs) context.left in
    run_chosen fs outer (run_inline fs context.turns (base_in fs) outer context.nest) place (slice_get fs place)

-- what the function that runs gives for arguments
abbrev pub function_in : Context → List ArrayValue → Ends (List ArrayValue)
function_in context args =
    let begin = with_variables (names_of_params context.current.now.params.items) args no_variables in
    and_then (block_in context (function context.current.now).body begin) (λ env.
    and_then (meanings_in context (function context.current.now).values env) (results_in context.current.now.results.items context.current.now.ends))

-- the cell of a generator at an index vector
abbrev pub cell_in : Context → Generator → List ℤ → Env → Ends ArrayValue
cell_in context g v env =
    and_then (block_in context (View.block g.body.items) (with_index (index_view g.index) v env)) (meaning_in context (expr g.cell))

-- what `main` gives, if it stands at this place
abbrev pub main_at : List Function → ℕ → List ArrayValue → Caps → Site → Ends (List ArrayValue)
main_at fs place args caps end = outcome_of (functions fs) (base_in (functions fs)) caps args end (slice_get (functions fs) place)
