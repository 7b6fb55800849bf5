-- The meaning of calls, and of a whole program.
use Rattle.std.specs.Prelude.{ℕ, zero, suc, List, Bool, ◌&&◌, ◌||◌, not, if◌then◌else◌, Option, Some, None, Ok, map, length, position, bytes_eq, slice_get}
use Rattle.std.specs.List.{list_all}
use Rattle.sac_base.specs.declared.site.Site.{Site}
use Rattle.sac_base.specs.declared.faults.Caps.{Caps}
use Rattle.sac_base.specs.declared.faults.FaultKind.TheVariants.{F7, F10}
use Rattle.sac_base.specs.declared.name.Name.{Name}
use Rattle.sac_base.specs.declared.types.ArrayType.{ArrayType}
use Rattle.sac_base.specs.Arrays.{ArrayValue}
use Rattle.sac_base.specs.Types.{all_have, all_below}
use Rattle.sac_ast.specs.declared.Param.{Param}
use Rattle.sac_base.specs.declared.base.Base.{Base}
use Rattle.sac_ast.specs.Tree.{Expr, FunctionTree, ProgramTree}
use Rattle.sac_ast.specs.Bases.{base_in}
use Rattle.sac_base.specs.Outcomes.{Ends, and_then, fault, no_variables, with_variables}
use Rattle.source_meaning.specs.Meaning.{CallMeaning, block, meanings}
pub use Rattle.sac_ast.specs.Mains.{MAIN, is_main}

abbrev pub param_types : FunctionTree → List ArrayType
param_types f = map (λ (p : Param). p.ty) f.params

abbrev pub param_names : FunctionTree → List Name
param_names f = map (λ (p : Param). p.name) f.params

-- the function is an instance of the name whose types contain the arguments
abbrev pub fits : Name → List ArrayValue → FunctionTree → Bool
fits name args f = bytes_eq f.name name && all_have (param_types f) args

-- and its types are below those of every other such instance
abbrev pub is_least : List FunctionTree → Name → List ArrayValue → FunctionTree → Bool
is_least fs name args f =
    fits name args f && list_all (λ g. not (fits name args g) || all_below (param_types f) (param_types g)) fs

-- the place of the instance that a call takes
abbrev pub chosen : List FunctionTree → Name → List ArrayValue → Option ℕ
chosen fs name args = position (is_least fs name args) fs

-- what the function at a place gives for arguments, when it is called at a site
abbrev pub RunMeaning : Type 0
RunMeaning = ℕ → List ArrayValue → Site → Ends (List ArrayValue)

abbrev pub results_in : List ArrayType → Site → List ArrayValue → Ends (List ArrayValue)
results_in types site values = if all_have types values then Ok values else fault F7 site

-- the body of a function, where `call` is what the calls in it mean
abbrev pub body_of : ℕ → (FunctionTree → Expr → Option Base) → CallMeaning → Option FunctionTree → List ArrayValue → Site → Ends (List ArrayValue)
body_of turns base_of call None args site = fault F7 site
body_of turns base_of call (Some f) args site =
    and_then (block turns (base_of f) call f.body (with_variables (param_names f) args no_variables)) (λ env.
    and_then (meanings turns (base_of f) call f.values env) (results_in f.results f.ends))

module _ (fs : List FunctionTree) where
  abbrev pub run_chosen : RunMeaning → RunMeaning → ℕ → Option FunctionTree → List ArrayValue → Site → Ends (List ArrayValue)
  run_chosen outer inner place None args site = fault F7 site
  run_chosen outer inner place (Some f) args site = if f.inline then inner place args site else outer place args site

  abbrev pub call_chosen : RunMeaning → RunMeaning → Option ℕ → List ArrayValue → Site → Ends (List ArrayValue)
  call_chosen outer inner None args site = fault F7 site
  call_chosen outer inner (Some place) args site = run_chosen outer inner place (slice_get fs place) args site

  -- a call takes the least instance that fits its arguments; `outer` runs one that is not inline, and `inner` one that is
  abbrev pub call_by : RunMeaning → RunMeaning → CallMeaning
  call_by outer inner name args site = call_chosen outer inner (chosen fs name args) args site

  module _ (turns : ℕ) (base_of : FunctionTree → Expr → Option Base) where
    -- An inline function runs at its caller's depth. It calls only inline functions that stand before it, so calls of inline functions nest at most
    -- as deep as there are functions: `nest` bounds them.
    abbrev pub run_inline : RunMeaning → ℕ → RunMeaning
    run_inline outer zero place args site = fault F10 site
    run_inline outer (suc nest) place args site =
        body_of turns base_of (call_by outer (run_inline outer nest)) (slice_get fs place) args site

    -- a function that is not inline runs one level deeper than its caller, of which so many are left
    abbrev pub run_deeper : ℕ → RunMeaning
    run_deeper zero place args site = fault F10 site
    run_deeper (suc left) place args site =
        body_of turns base_of (call_by (run_deeper left) (run_inline (run_deeper left) (length fs))) (slice_get fs place) args site

    -- what calls mean where so many levels are left
    abbrev pub call_at : ℕ → CallMeaning
    call_at left = call_by (run_deeper left) (run_inline (run_deeper left) (length fs))

-- main runs at depth 0; its arguments must be in the types of its parameters
abbrev pub outcome_of : List FunctionTree → (FunctionTree → Expr → Option Base) → Caps → List ArrayValue → Site → Option FunctionTree → Ends (List ArrayValue)
outcome_of fs base_of caps args end None = fault F7 end
outcome_of fs base_of caps args end (Some f) =
    if all_have (param_types f) args
    then body_of caps.turns base_of (call_at fs caps.turns base_of caps.depth) (Some f) args f.site
    else fault F7 f.site

abbrev pub main_of : List FunctionTree → Option ℕ → Option FunctionTree
main_of fs None = None
main_of fs (Some place) = slice_get fs place

-- what a program comes to on arguments, under limits on the turns of each loop and on the depth of calls
abbrev pub outcome : ProgramTree → List ArrayValue → Caps → Ends (List ArrayValue)
outcome p args caps = outcome_of p.functions (base_in p.functions) caps args p.end (main_of p.functions (position is_main p.functions))
