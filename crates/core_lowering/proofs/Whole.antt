-- A program's core has the program's outcome.
use Rattle.std.proofs.Common.{◌≡◌, ℕ, zero, suc, Bool, true, false, ◌&&◌, List, [], ◌∷◌, ◌++◌, map, length, Option, Some, None, Ok, Err, refl, ap, sym, subst, ◌∙◌, arith}
use Rattle.std.specs.Prelude.{bytes_eq, slice_get, unwrap_or, option_map, position, if◌then◌else◌, is_some, IsTrue}
use Rattle.std.proofs.lemmas.Option.{slice_get-map}
use Rattle.sac_base.specs.declared.faults.Caps.{Caps}
use Rattle.sac_base.specs.declared.faults.FaultKind.TheVariants.{F7}
use Rattle.sac_base.specs.declared.name.Name.{Name}
use Rattle.sac_base.specs.declared.site.Site.{Site}
use Rattle.sac_base.specs.declared.types.ArrayType.{ArrayType}
use Rattle.sac_base.specs.Arrays.{ArrayValue}
use Rattle.sac_base.specs.Outcomes.{Ends, and_then, fault}
use Rattle.sac_base.specs.Outcomes
use Rattle.sac_base.specs.Types.{has, all_have}
use Rattle.sac_ast.specs.declared.Param.{Param}
use Rattle.sac_ast.specs.Tree.{FunctionTree, ProgramTree}
use Rattle.sac_ast.specs.Bases.{base_in}
use Rattle.core_ir.specs.declared.tree.Var.{Var}
use Rattle.core_ir.specs.Terms.{FunTerm, Gives, chain}
use Rattle.core_ir.specs.Meaning.{Answer, run, bind_all, no_variables}
use Rattle.core_ir.specs.Meaning
use Rattle.core_ir.specs.Outcome as core
use Rattle.source_meaning.specs.Calls.{param_types, param_names, is_main, fits, results_in}
use Rattle.source_meaning.specs.Calls as source
use Rattle.source_meaning.specs.Meaning as meaning
use Rattle.core_lowering.specs.Lowering.{variables_from, pushed, lowered_block, lowered_all}
use Rattle.core_lowering.specs.Definite.{with_names, bound_behind}
use Rattle.core_lowering.specs.Programs.{group_of, lowered_params, name_base, lowered_function, lowered_program, no_names, result_count, IsDefiniteFunction, AreDefiniteFunctions, IsDefiniteProgram, HasOutcomeOf}
use Rattle.core_lowering.proofs.Runs.{and_then_assoc, run_chain, run_more}
use Rattle.core_lowering.proofs.Scopes.{Below, Shows, shows_pushed, below_pushed, same_name}
use Rattle.core_lowering.proofs.Fresh.{grows_block}
use Rattle.core_lowering.proofs.Sound.{sound_all, sound_block}
use Rattle.core_lowering.proofs.Chosen.{same_types, same_chosen, position_at}

-- ---- lists of types

have_length : (ts : List ArrayType) (vs : List ArrayValue) → all_have ts vs ≡ true → length vs ≡ length ts
have_length [] [] h = refl
have_length (t ∷ ts) (v ∷ vs) h = ap suc (have_length ts vs (second (has t v) (all_have ts vs) h))
  where
    second : (a b : Bool) → (a && b) ≡ true → b ≡ true
    second true b p = p
    second false b p = absurd (cc)
have_length [] (v ∷ vs) h = absurd (cc)
have_length (t ∷ ts) [] h = absurd (cc)

names_types : (ps : List Param) → length (map (λ (p : Param). p.name) ps) ≡ length (map (λ (p : Param). p.ty) ps)
names_types [] = refl
names_types (p ∷ ps) = ap suc (names_types ps)

pub params_vars : (n : ℕ) (ps : List Param) → map (λ (q : Var × ArrayType). q.0) (lowered_params n ps) ≡ variables_from n (length (map (λ (p : Param). p.name) ps))
params_vars n [] = refl
params_vars n (p ∷ ps) = ap (λ l. record { 0 = n } ∷ l) (params_vars (suc n) ps)

-- ---- functions

abbrev SameCalls : List FunctionTree → meaning.CallMeaning → Meaning.CallMeaning → Type 0
SameCalls fs invoke calls = (name : Name) (vs : List ArrayValue) (site : Site) → calls (group_of fs name) vs site ≡ invoke name vs site

abbrev Counted : List FunctionTree → meaning.CallMeaning → Type 0
Counted fs invoke = (name : Name) (vs rs : List ArrayValue) (site : Site) → invoke name vs site ≡ Ok rs → length rs ≡ result_count fs name

pub nothing_below : (n : ℕ) → Below n []
nothing_below n name x p = absurd (cc)

nothing_shown : Shows no_names [] Outcomes.no_variables no_variables
nothing_shown name p = absurd (cc)

function_same : (turns : ℕ) (fs : List FunctionTree) (f : FunctionTree) (invoke : meaning.CallMeaning) (calls : Meaning.CallMeaning) (args : List ArrayValue) (site : Site) → SameCalls fs invoke calls → Counted fs invoke → IsDefiniteFunction fs f → length args ≡ length (param_names f) → core.function_value turns calls (lowered_function fs f) args ≡ source.body_of turns (base_in fs) invoke (Some f) args site
function_same turns fs f invoke calls args site same counted d l =
    let xs = param_names f in
    let n = length xs in
    let scope = pushed xs 0 [] in
    let bound = with_names xs no_names in
    let B = lowered_block (group_of fs) (base_in fs f) (name_base fs f) f.body scope n in
    let V = lowered_all (group_of fs) (base_in fs f) (name_base fs f) f.values B.scope B.next in
    let env = Outcomes.with_variables xs args Outcomes.no_variables in
    let g0 = bind_all no_variables (variables_from 0 n) args in
    let below : Below n scope = below_pushed xs 0 n [] (nothing_below 0) (omega arith) in
    let shown = shows_pushed xs args 0 no_names [] Outcomes.no_variables no_variables l (nothing_below 0) nothing_shown in
    (λ i. and_then (run calls turns (chain (B.lets ++ V.lets) (Gives V.results)) (bind_all no_variables (params_vars 0 f.params i) args)) (core.results_in f.results f.ends))
    ∙ run_chain calls turns (B.lets ++ V.lets) V.results g0 (results_in f.results f.ends)
    ∙ run_more calls turns B.lets V.lets g0 _
    ∙ sound_block turns (base_in fs f) (name_base fs f) invoke (group_of fs) calls (result_count fs) same counted f.body bound scope n env g0 _ (λ env'. and_then (meaning.meanings turns (base_in fs f) invoke f.values env') (results_in f.results f.ends)) d.body below shown
    (λ env' g x kept shows.
    sound_all turns (base_in fs f) (name_base fs f) invoke (group_of fs) calls (result_count fs) same counted f.values (bound_behind f.body bound) B.scope B.next env' g _ (results_in f.results f.ends) d.values (grows_block (group_of fs) (base_in fs f) (name_base fs f) f.body scope n below).below shows
    (λ vs h y q. ap (results_in f.results f.ends) q))

-- ---- calls

-- functions run the same on arguments in their types
abbrev SameRuns : List FunctionTree → source.RunMeaning → core.RunMeaning → Type 0
SameRuns fs a b = (place : ℕ) (f : FunctionTree) (args : List ArrayValue) (site : Site) → slice_get fs place ≡ Some f → all_have (param_types f) args ≡ true → b place args site ≡ a place args site

-- a run gives as many results as the function has
abbrev CountedRuns : List FunctionTree → source.RunMeaning → Type 0
CountedRuns fs a = (place : ℕ) (f : FunctionTree) (args rs : List ArrayValue) (site : Site) → slice_get fs place ≡ Some f → a place args site ≡ Ok rs → length rs ≡ length f.results

definite_at : (fs gs : List FunctionTree) (place : ℕ) (f : FunctionTree) → AreDefiniteFunctions fs gs → slice_get gs place ≡ Some f → IsDefiniteFunction fs f
definite_at fs [] place f d e = absurd (cc)
definite_at fs (g ∷ gs) zero f d e = let same : g ≡ f = cc in subst (λ (h : FunctionTree). IsDefiniteFunction fs h) same d.0
definite_at fs (g ∷ gs) (suc place) f d e = definite_at fs gs place f d.1 e

and_first : (a b : Bool) → (a && b) ≡ true → a ≡ true
and_first true b p = refl
and_first false b p = absurd (cc)

and_second : (a b : Bool) → (a && b) ≡ true → b ≡ true
and_second true b p = p
and_second false b p = absurd (cc)

module _ (p : ProgramTree) (d : AreDefiniteFunctions p.functions p.functions) where
  same_at : (outer inner : source.RunMeaning) (core_outer core_inner : core.RunMeaning) → SameRuns p.functions outer core_outer → SameRuns p.functions inner core_inner → SameCalls p.functions (source.call_by p.functions outer inner) (core.call_by (lowered_program p) core_outer core_inner)
  same_at outer inner core_outer core_inner s t name args site =
      (λ i. core.call_chosen (lowered_program p) core_outer core_inner (same_chosen p name args i) args site)
      ∙ go (source.chosen p.functions name args) refl
    where
      pick : (b : Bool) (u v x y : Answer) → u ≡ x → v ≡ y → (if b then u else v) ≡ (if b then x else y)
      pick true u v x y h k = h
      pick false u v x y h k = k

      go : (o : Option ℕ) → source.chosen p.functions name args ≡ o → core.call_chosen (lowered_program p) core_outer core_inner o args site ≡ source.call_chosen p.functions outer inner o args site
      go None e = refl
      go (Some place) e =
          let a = position_at (source.is_least p.functions name args) p.functions place e in
          let f = a.function in
          let types : all_have (param_types f) args ≡ true = and_second (bytes_eq f.name name) (all_have (param_types f) args) (and_first (fits name args f) _ a.passes) in
          (λ i. core.run_chosen core_outer core_inner place ((slice_get-map (lowered_function p.functions) p.functions place ∙ ap (option_map (lowered_function p.functions)) a.there) i) args site)
          ∙ pick f.inline (core_inner place args site) (core_outer place args site) (inner place args site) (outer place args site) (t place f args site a.there types) (s place f args site a.there types)
          ∙ (λ i. source.run_chosen p.functions outer inner place (sym a.there i) args site)

  count_at : (outer inner : source.RunMeaning) → CountedRuns p.functions outer → CountedRuns p.functions inner → Counted p.functions (source.call_by p.functions outer inner)
  count_at outer inner s t name args rs site e = go (source.chosen p.functions name args) refl e
    where
      either : (b : Bool) (place : ℕ) (f : FunctionTree) → slice_get p.functions place ≡ Some f → (if b then inner place args site else outer place args site) ≡ Ok rs → length rs ≡ length f.results
      either true place f h k = t place f args rs site h k
      either false place f h k = s place f args rs site h k

      go : (o : Option ℕ) → source.chosen p.functions name args ≡ o → source.call_chosen p.functions outer inner o args site ≡ Ok rs → length rs ≡ result_count p.functions name
      go None q k = absurd (cc)
      go (Some place) q k =
          let a = position_at (source.is_least p.functions name args) p.functions place q in
          let f = a.function in
          let same : f.name ≡ name = same_name f.name name (and_first (bytes_eq f.name name) _ (and_first (fits name args f) _ a.passes)) in
          let taken : (if f.inline then inner place args site else outer place args site) ≡ Ok rs = (λ i. source.run_chosen p.functions outer inner place (sym a.there i) args site) ∙ k in
          either f.inline place f a.there taken ∙ (definite_at p.functions p.functions place f d a.there).count ∙ ap (result_count p.functions) same

  results_count : (types : List ArrayType) (site : Site) (x : Ends (List ArrayValue)) (rs : List ArrayValue) → and_then x (results_in types site) ≡ Ok rs → length rs ≡ length types
  results_count types site (Err k) rs e = absurd (cc)
  results_count types site (Ok vs) rs e = go (all_have types vs) refl e
    where
      go : (b : Bool) → all_have types vs ≡ b → (if b then Ok vs else fault F7 site) ≡ Ok rs → length rs ≡ length types
      go true h k = let same : vs ≡ rs = cc in ap length (sym same) ∙ have_length types vs h
      go false h k = absurd (cc)

  body_count : (turns : ℕ) (invoke : meaning.CallMeaning) (f : FunctionTree) (args rs : List ArrayValue) (site : Site) → source.body_of turns (base_in p.functions) invoke (Some f) args site ≡ Ok rs → length rs ≡ length f.results
  body_count turns invoke f args rs site e =
      results_count f.results f.ends (and_then (meaning.block turns (base_in p.functions f) invoke f.body (Outcomes.with_variables (param_names f) args Outcomes.no_variables)) (meaning.meanings turns (base_in p.functions f) invoke f.values)) rs
      (and_then_assoc (meaning.block turns (base_in p.functions f) invoke f.body (Outcomes.with_variables (param_names f) args Outcomes.no_variables)) (meaning.meanings turns (base_in p.functions f) invoke f.values) (results_in f.results f.ends) ∙ e)

  body_same : (turns : ℕ) (invoke : meaning.CallMeaning) (calls : Meaning.CallMeaning) (place : ℕ) (f : FunctionTree) (args : List ArrayValue) (site : Site) → SameCalls p.functions invoke calls → Counted p.functions invoke → slice_get p.functions place ≡ Some f → all_have (param_types f) args ≡ true → core.body_of turns calls (slice_get (lowered_program p).functions place) args site ≡ source.body_of turns (base_in p.functions) invoke (slice_get p.functions place) args site
  body_same turns invoke calls place f args site same counted there types =
      (λ i. core.body_of turns calls ((slice_get-map (lowered_function p.functions) p.functions place ∙ ap (option_map (lowered_function p.functions)) there) i) args site)
      ∙ function_same turns p.functions f invoke calls args site same counted (definite_at p.functions p.functions place f d there) (have_length (param_types f) args types ∙ sym (names_types f.params))
      ∙ (λ i. source.body_of turns (base_in p.functions) invoke (sym there i) args site)

  module _ (turns : ℕ) where
    inline_count : (outer : source.RunMeaning) → CountedRuns p.functions outer → (nest : ℕ) → CountedRuns p.functions (source.run_inline p.functions turns (base_in p.functions) outer nest)
    inline_count outer s zero place f args rs site there e = absurd (cc)
    inline_count outer s (suc nest) place f args rs site there e =
        body_count turns (source.call_by p.functions outer (source.run_inline p.functions turns (base_in p.functions) outer nest)) f args rs site
        ((λ i. source.body_of turns (base_in p.functions) (source.call_by p.functions outer (source.run_inline p.functions turns (base_in p.functions) outer nest)) (sym there i) args site) ∙ e)

    deeper_count : (left : ℕ) → CountedRuns p.functions (source.run_deeper p.functions turns (base_in p.functions) left)
    deeper_count zero place f args rs site there e = absurd (cc)
    deeper_count (suc left) place f args rs site there e =
        body_count turns (source.call_at p.functions turns (base_in p.functions) left) f args rs site
        ((λ i. source.body_of turns (base_in p.functions) (source.call_at p.functions turns (base_in p.functions) left) (sym there i) args site) ∙ e)

    inline_same : (outer : source.RunMeaning) (core_outer : core.RunMeaning) → SameRuns p.functions outer core_outer → CountedRuns p.functions outer → (nest : ℕ) → SameRuns p.functions (source.run_inline p.functions turns (base_in p.functions) outer nest) (core.run_inline (lowered_program p) turns core_outer nest)
    inline_same outer core_outer s c zero place f args site there types = refl
    inline_same outer core_outer s c (suc nest) place f args site there types =
        let inner = source.run_inline p.functions turns (base_in p.functions) outer nest in
        body_same turns (source.call_by p.functions outer inner) (core.call_by (lowered_program p) core_outer (core.run_inline (lowered_program p) turns core_outer nest)) place f args site
        (same_at outer inner core_outer (core.run_inline (lowered_program p) turns core_outer nest) s (inline_same outer core_outer s c nest))
        (count_at outer inner c (inline_count outer c nest)) there types

    map_count : (g : FunctionTree → FunTerm) (fs : List FunctionTree) → length (map g fs) ≡ length fs
    map_count g [] = refl
    map_count g (f ∷ fs) = ap suc (map_count g fs)

    at_same : (left : ℕ) → SameRuns p.functions (source.run_deeper p.functions turns (base_in p.functions) left) (core.run_deeper (lowered_program p) turns left) → SameCalls p.functions (source.call_at p.functions turns (base_in p.functions) left) (core.call_at (lowered_program p) turns left)
    at_same left s =
        let outer = source.run_deeper p.functions turns (base_in p.functions) left in
        let core_outer = core.run_deeper (lowered_program p) turns left in
        subst (λ (n : ℕ). SameCalls p.functions (source.call_at p.functions turns (base_in p.functions) left) (core.call_by (lowered_program p) core_outer (core.run_inline (lowered_program p) turns core_outer n))) (sym (map_count (lowered_function p.functions) p.functions))
        (same_at outer (source.run_inline p.functions turns (base_in p.functions) outer (length p.functions)) core_outer (core.run_inline (lowered_program p) turns core_outer (length p.functions)) s (inline_same outer core_outer s (deeper_count left) (length p.functions)))

    at_count : (left : ℕ) → Counted p.functions (source.call_at p.functions turns (base_in p.functions) left)
    at_count left =
        let outer = source.run_deeper p.functions turns (base_in p.functions) left in
        count_at outer (source.run_inline p.functions turns (base_in p.functions) outer (length p.functions)) (deeper_count left) (inline_count outer (deeper_count left) (length p.functions))

    deeper_same : (left : ℕ) → SameRuns p.functions (source.run_deeper p.functions turns (base_in p.functions) left) (core.run_deeper (lowered_program p) turns left)
    deeper_same zero place f args site there types = refl
    deeper_same (suc left) place f args site there types =
        body_same turns (source.call_at p.functions turns (base_in p.functions) left) (core.call_at (lowered_program p) turns left) place f args site (at_same left (deeper_same left)) (at_count left) there types

-- ---- the outcome

where_true : (b : Bool) (x y z : Answer) → (b ≡ true → x ≡ y) → (if b then x else z) ≡ (if b then y else z)
where_true true x y z h = h refl
where_true false x y z h = refl

main_same : (p : ProgramTree) (d : IsDefiniteProgram p) (args : List ArrayValue) (caps : Caps) (o : Option ℕ) → position is_main p.functions ≡ o → IsTrue (is_some o) → core.main_value caps.turns (core.call_at (lowered_program p) caps.turns caps.depth) (slice_get (lowered_program p).functions (unwrap_or o 0)) args ≡ source.outcome_of p.functions (base_in p.functions) caps args p.end (source.main_of p.functions o)
main_same p d args caps None e h = absurd (cc)
main_same p d args caps (Some place) e h =
    let a = position_at is_main p.functions place e in
    let f = a.function in
    let calls = core.call_at (lowered_program p) caps.turns caps.depth in
    let invoke = source.call_at p.functions caps.turns (base_in p.functions) caps.depth in
    let same = at_same p d.functions caps.turns caps.depth (deeper_same p d.functions caps.turns caps.depth) in
    let counted = at_count p d.functions caps.turns caps.depth in
    (λ i. core.main_value caps.turns calls ((slice_get-map (lowered_function p.functions) p.functions place ∙ ap (option_map (lowered_function p.functions)) a.there) i) args)
    ∙ (λ i. if all_have (same_types p.functions f i) args then core.function_value caps.turns calls (lowered_function p.functions f) args else fault F7 f.site)
    ∙ where_true (all_have (param_types f) args) _ _ (fault F7 f.site) (λ types. function_same caps.turns p.functions f invoke calls args f.site same counted (definite_at p.functions p.functions place f d.functions a.there) (have_length (param_types f) args types ∙ sym (names_types f.params)))
    ∙ (λ i. source.outcome_of p.functions (base_in p.functions) caps args p.end (sym a.there i))

pub outcome_same : (p : ProgramTree) → IsDefiniteProgram p → HasOutcomeOf p (lowered_program p)
outcome_same p d args caps = main_same p d args caps (position is_main p.functions) refl d.main
