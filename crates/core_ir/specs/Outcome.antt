-- What calls mean, and the outcome of a core.
use Rattle.std.specs.Prelude.{◌≡◌, ℕ, zero, suc, Bool, ◌&&◌, ◌||◌, not, if◌then◌else◌, List, [], ◌∷◌, map, flat_map, length, Option, Some, None, Ok}
use Rattle.std.specs.Prelude.{slice_get, unwrap_or}
use Rattle.std.specs.List.{list_all}
use Rattle.sac_base.specs.declared.faults.Caps.{Caps}
use Rattle.sac_base.specs.declared.faults.FaultKind.TheVariants.{F7, F10}
use Rattle.sac_base.specs.declared.site.Site.{Site}
use Rattle.sac_base.specs.declared.types.ArrayType.{ArrayType}
use Rattle.sac_base.specs.Arrays.{ArrayValue}
use Rattle.sac_base.specs.Outcomes.{and_then, fault}
use Rattle.sac_base.specs.Types.{all_have, all_below}
use Rattle.core_ir.specs.declared.tree.Var.{Var}
use Rattle.core_ir.specs.Terms.{FunTerm, CoreTerm}
use Rattle.core_ir.specs.Meaning.{Answer, CallMeaning, no_variables, bind_all, run}

abbrev pub param_types : FunTerm → List ArrayType
param_types f = map (λ (p : Var × ArrayType). p.1) f.params

abbrev pub param_vars : FunTerm → List Var
param_vars f = map (λ (p : Var × ArrayType). p.0) f.params

-- ---- the instance that a call takes

-- an instance of a name: the place of its function, and the types of its parameters
pub record Instance : Type 0 where
  pub place : ℕ
  pub types : List ArrayType

abbrev pub instance_of : ℕ → Option FunTerm → List Instance
instance_of place None = []
instance_of place (Some f) = record { place = place; types = param_types f } ∷ []

-- those of a group's numbers that are places of functions
abbrev pub instances : List FunTerm → List ℕ → List Instance
instances fs group = flat_map (λ place. instance_of place (slice_get fs place)) group

-- the types of the instance contain the arguments, and are below those of every other instance that does
abbrev pub is_least : List Instance → List ArrayValue → Instance → Bool
is_least all args i =
    all_have i.types args && list_all (λ (j : Instance). not (all_have j.types args) || all_below i.types j.types) all

-- the place of the first least instance in the list
abbrev pub least_among : List Instance → List ArrayValue → List Instance → Option ℕ
least_among all args [] = None
least_among all args (i ∷ rest) = if is_least all args i then Some i.place else least_among all args rest

-- the numbers of a group
abbrev pub group_at : CoreTerm → ℕ → List ℕ
group_at core group = unwrap_or (slice_get core.groups group) []

-- the place of the function that a call of a group takes
abbrev pub chosen : CoreTerm → ℕ → List ArrayValue → Option ℕ
chosen core group args =
    let all = instances core.functions (group_at core group) in
    least_among all args all

-- ---- calls

-- what the function at a place gives for arguments, when it is called at a site
abbrev pub RunMeaning : Type 0
RunMeaning = ℕ → List ArrayValue → Site → Answer

abbrev pub results_in : List ArrayType → Site → List ArrayValue → Answer
results_in types site values = if all_have types values then Ok values else fault F7 site

-- a function on arguments, where `call` is what the calls in it mean
abbrev pub function_value : ℕ → CallMeaning → FunTerm → List ArrayValue → Answer
function_value turns call f args =
    and_then (run call turns f.body (bind_all no_variables (param_vars f) args)) (results_in f.results f.ends)

abbrev pub body_of : ℕ → CallMeaning → Option FunTerm → List ArrayValue → Site → Answer
body_of turns call None args site = fault F7 site
body_of turns call (Some f) args site = function_value turns call f args

abbrev pub run_chosen : RunMeaning → RunMeaning → ℕ → Option FunTerm → List ArrayValue → Site → Answer
run_chosen outer inner place None args site = fault F7 site
run_chosen outer inner place (Some f) args site = if f.is_inline then inner place args site else outer place args site

module _ (core : CoreTerm) where
  abbrev pub call_chosen : RunMeaning → RunMeaning → Option ℕ → List ArrayValue → Site → Answer
  call_chosen outer inner None args site = fault F7 site
  call_chosen outer inner (Some place) args site = run_chosen outer inner place (slice_get core.functions place) args site

  -- a call takes the least instance that fits its arguments; `outer` runs one that is not inline, and `inner` one that is
  abbrev pub call_by : RunMeaning → RunMeaning → CallMeaning
  call_by outer inner group args site = call_chosen outer inner (chosen core group args) args site

  module _ (turns : ℕ) where
    -- An inline function runs at its caller's depth. It calls only inline functions that stand before it, so calls of inline functions nest at most
    -- as deep as there are functions: `nest` bounds them.
    abbrev pub run_inline : RunMeaning → ℕ → RunMeaning
    run_inline outer zero place args site = fault F10 site
    run_inline outer (suc nest) place args site =
        body_of turns (call_by outer (run_inline outer nest)) (slice_get core.functions place) args site

    -- a function that is not inline runs one level deeper than its caller, of which so many are left
    abbrev pub run_deeper : ℕ → RunMeaning
    run_deeper zero place args site = fault F10 site
    run_deeper (suc left) place args site =
        body_of turns (call_by (run_deeper left) (run_inline (run_deeper left) (length core.functions))) (slice_get core.functions place) args site

    -- what calls mean where so many levels are left
    abbrev pub call_at : ℕ → CallMeaning
    call_at left = call_by (run_deeper left) (run_inline (run_deeper left) (length core.functions))

-- ---- the outcome

-- the first place of a source, which stands for the site of a main function that is not there
abbrev pub start_of_source : Site
start_of_source = record { line = 1; col = 1 }

-- main runs at depth 0; its arguments must be in the types of its parameters
abbrev pub main_value : ℕ → CallMeaning → Option FunTerm → List ArrayValue → Answer
main_value turns call None args = fault F7 start_of_source
main_value turns call (Some f) args = if all_have (param_types f) args then function_value turns call f args else fault F7 f.site

-- what a core comes to on arguments, under limits on the turns of each loop and on the depth of calls
abbrev pub outcome : CoreTerm → List ArrayValue → Caps → Answer
outcome core args caps = main_value caps.turns (call_at core caps.turns caps.depth) (slice_get core.functions core.main) args

-- ---- cores with the same outcome

-- on all arguments and under all limits
abbrev pub SameOutcome : CoreTerm → CoreTerm → Type 0
SameOutcome a b = (args : List ArrayValue) (caps : Caps) → outcome a args caps ≡ outcome b args caps

-- all of a function that its callers see
pub record SameHead (f g : FunTerm) : Type 0 where
  pub site : f.site ≡ g.site
  pub types : param_types f ≡ param_types g
  pub inlines : f.is_inline ≡ g.is_inline

abbrev pub SameHeads : List FunTerm → List FunTerm → Type 0
SameHeads [] [] = Unit {0}
SameHeads (f ∷ fs) (g ∷ gs) = SameHead f g × SameHeads fs gs
SameHeads _ _ = ⊥

-- the same groups and main, and functions that look the same from outside
pub record SameOutside (a b : CoreTerm) : Type 0 where
  pub groups : a.groups ≡ b.groups
  pub main : a.main ≡ b.main
  pub heads : SameHeads a.functions b.functions

-- a function in the place of another: callers see no difference, whatever calls in it mean
pub record SameFunction (f g : FunTerm) : Type 0 where
  pub head : SameHead f g
  pub means : (turns : ℕ) (call : CallMeaning) (args : List ArrayValue) → function_value turns call f args ≡ function_value turns call g args

abbrev pub SameFunctions : List FunTerm → List FunTerm → Type 0
SameFunctions [] [] = Unit {0}
SameFunctions (f ∷ fs) (g ∷ gs) = SameFunction f g × SameFunctions fs gs
SameFunctions _ _ = ⊥

-- each function means the same where the calls in it are those of the first core
abbrev pub SameBodies : CoreTerm → CoreTerm → Type 0
SameBodies a b =
    (turns : ℕ) (outer : RunMeaning) (nest place : ℕ) (args : List ArrayValue) (site : Site) →
    body_of turns (call_by a outer (run_inline a turns outer nest)) (slice_get a.functions place) args site
    ≡ body_of turns (call_by a outer (run_inline a turns outer nest)) (slice_get b.functions place) args site
