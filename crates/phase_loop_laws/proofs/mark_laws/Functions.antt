-- Functions of well-marked code do what they mean on arrays, at every depth.
use Rattle.std.proofs.Common.{◌≡◌, ℕ, zero, suc, Bool, true, false, List, [], ◌∷◌, map, length, Option, Some, None, refl, ap, ◌∙◌, sym, subst, arith, All, true≢false}
use Rattle.std.specs.Prelude.{if◌then◌else◌, slice_get, option_map}
use Rattle.std.proofs.lemmas.List.Elements.{All-head, All-tail}
use Rattle.sac_base.specs.declared.site.Site.{Site}
use Rattle.sac_base.specs.declared.types.ArrayType.{ArrayType}
use Rattle.sac_base.specs.Arrays.{ArrayValue}
use Rattle.sac_base.specs.Types.{all_have}
use Rattle.core_ir.specs.declared.tree.Var.{Var}
use Rattle.core_ir.specs.Terms.{FunTerm, CoreTerm}
use Rattle.core_ir.specs.Meaning.{Env, CallMeaning, no_variables, bind_all, run}
use Rattle.core_ir.specs.Outcome.{RunMeaning, param_types, results_in, function_value, body_of, run_chosen, call_chosen, call_by, run_inline, run_deeper, call_at, chosen}
use Rattle.core_ir.specs.WellFormed.{IsFunction, bases, param_bases}
use Rattle.core_facts.specs.Facts.{DescribeAll}
use Rattle.core_facts.specs.calls.Arrays.{CallsKeep}
use Rattle.core_facts.proofs.constants.Whole.{calls_fit, params_sound}
use Rattle.core_loops.proofs.values.Whole.{keeps_arrays}
use Rattle.core_loops.specs.Indices.{Other}
use Rattle.counted_code.specs.Terms.{CodeFunTerm, CodeProgram, core_of, core_of_fun, core_of_code}
use Rattle.counted_code.specs.Values.{Heap, Value, read}
use Rattle.counted_code.specs.Machine.{DoesCalls, no_values, bind_values, does}
use Rattle.counted_code.specs.Outcome.{DoesRun, code_param_vars, results_do, function_does, body_does, run_does, chosen_does, call_does, inline_does, deeper_does, call_does_at}
use Rattle.counted_code.specs.Counts.{IsWellCounted, group_results}
use Rattle.counted_laws.specs.Simulation.{Owns, Matches}
use Rattle.counted_laws.proofs.Bound.{turn_ready}
use Rattle.counted_laws.proofs.Blocks.{then_matches}
use Rattle.counted_laws.proofs.Instances.{no_some, is_chosen, IsChosen}
use Rattle.counted_laws.proofs.Functions.{slice_map, map_length, some_same, counted_at, none_nil, map_size, typed_match}
use Rattle.counted_marks.specs.Known.{Given, at_start, given}
use Rattle.counted_marks.specs.Marks.{WellMarked, WellMarkedFunctions, IsWellMarked}
use Rattle.phase_loop_laws.specs.mark_laws.Holds.{MarksHold, ArrayCallsMatch}
use Rattle.phase_loop_laws.proofs.mark_laws.Calls.{taken_fits, RunKeeps, full_only, call_keeps, inline_keeps, level_keeps, deeper_keeps}
use Rattle.phase_loop_laws.proofs.mark_laws.Marks.{block_holds}
use Rattle.phase_loop_laws.proofs.mark_laws.Whole.{block_does}

well_at : (g : Given) (fs : List CodeFunTerm) → WellMarkedFunctions g fs → (i : ℕ) (f : CodeFunTerm) → slice_get fs i ≡ Some f → WellMarked g f.body (at_start (core_of_fun f))
well_at g [] w i f p = elim (no_some p) [ ]
well_at g (h ∷ hs) w zero f p = subst (λ (x : CodeFunTerm). WellMarked g x.body (at_start (core_of_fun x))) (some_same p) w.0
well_at g (h ∷ hs) w (suc i) f p = well_at g hs w.1 i f p

function_at : (core : CoreTerm) (fs : List FunTerm) → All (IsFunction core) fs → (i : ℕ) (f : FunTerm) → slice_get fs i ≡ Some f → IsFunction core f
function_at core [] h i f p = elim (no_some p) [ ]
function_at core (x ∷ fs) h zero f p = subst (IsFunction core) (some_same p) (All-head (IsFunction core) x fs h)
function_at core (x ∷ fs) h (suc i) f p = function_at core fs (All-tail (IsFunction core) x fs h) i f p

no_truth : {A : Type 0} → false ≡ true → A
no_truth p = elim (true≢false (sym p)) [ ]

module _ (code : CodeProgram) (counted : IsWellCounted code) (well : IsWellMarked code) (turns : ℕ) where
  abbrev core : CoreTerm
  core = core_of_code code

  -- ---- one function

  at_place : (place : ℕ) (f : CodeFunTerm) → slice_get code.functions place ≡ Some f → slice_get (core_of_code code).functions place ≡ Some (core_of_fun f)
  at_place place f is = slice_map code.functions place ∙ ap (option_map core_of_fun) is

  -- its marks are right on arrays of its parameters' types
  marks_hold : (calls : CallMeaning) → CallsKeep (core_of_code code) calls → (place : ℕ) (f : CodeFunTerm) → slice_get code.functions place ≡ Some f → (args : List ArrayValue) → DescribeAll [] args → all_have (param_types (core_of_fun f)) args ≡ true → MarksHold calls turns f.body (bind_all no_variables (code_param_vars f) args)
  marks_hold calls keep place f is args full fits =
      let env : Env = bind_all no_variables (code_param_vars f) args in
      let function = function_at core core.functions counted.core.functions place (core_of_fun f) (at_place place f is) in
      block_holds core (group_results core) (given core) calls turns (calls_fit core calls keep) f.body (at_start (core_of_fun f)) (λ y. false) (λ y. []) (λ y x. Other) env env (length f.results) [] (code_param_vars f) (param_bases (core_of_fun f)) (bases f.results)
      (counted_at (group_results core) code.functions counted.functions place f is).1
      (λ v h. no_truth h)
      (well_at (given core) code.functions well place f is)
      function.agreeing
      (keeps_arrays core counted.core calls turns place (core_of_fun f) (full_only core calls keep) (at_place place f is))
      (record {
        fits = λ v h. no_truth h;
        sound = params_sound (core_of_fun f) args full fits;
        says = λ v h. no_truth h;
        same = record { others = λ y h. refl; element = λ y h. no_truth h };
      })
      (λ v h. no_truth h)

  pub function_runs : (does_calls : DoesCalls) (calls : CallMeaning) → ArrayCallsMatch (group_results (core_of_code code)) does_calls calls → CallsKeep (core_of_code code) calls → (place : ℕ) (f : CodeFunTerm) → slice_get code.functions place ≡ Some f → (vs : List Value) (h : Heap) (others : ℕ → ℕ) → length vs ≡ length (code_param_vars f) → Owns h vs others → DescribeAll [] (map (read h) vs)
      → all_have (param_types (core_of_fun f)) (map (read h) vs) ≡ true → Matches (length f.results) others h (function_does turns does_calls f vs h) (function_value turns calls (core_of_fun f) (map (read h) vs))
  function_runs does_calls calls match keep place f is vs h others size owns full fits =
      let ps : List Var = code_param_vars f in
      let c = counted_at (group_results core) code.functions counted.functions place f is in
      then_matches (length f.results) (length f.results) others others h (does does_calls turns f.body (bind_values no_values ps vs) h) (run calls turns (core_of f.body) (bind_all no_variables ps (map (read h) vs))) (results_do f.results f.ends) (results_in f.results f.ends) (λ b. omega arith)
      (block_does (group_results core) does_calls calls turns match f.body (length f.results) [] ps c.1 h (bind_values no_values ps vs) (bind_all no_variables ps (map (read h) vs)) others (turn_ready h no_values no_variables others [] ps vs tt tt size c.0 (none_nil ps) owns) (marks_hold calls keep place f is (map (read h) vs) full fits))
      (λ us k z o same. typed_match f others k us (all_have f.results (map (read k) us)) z o)

  -- ---- all functions

  -- on as many arrays as it has parameters, in their types, each function does what it means
  abbrev pub RunsDo : DoesRun → RunMeaning → Type 0
  RunsDo doers meaners =
      (place : ℕ) (f : CodeFunTerm) → slice_get code.functions place ≡ Some f → (vs : List Value) (s : Site) (h : Heap) (others : ℕ → ℕ) → length vs ≡ length (code_param_vars f) → Owns h vs others → DescribeAll [] (map (read h) vs)
      → all_have (param_types (core_of_fun f)) (map (read h) vs) ≡ true → Matches (length f.results) others h (doers place vs s h) (meaners place (map (read h) vs) s)

  calls_do : (outer inner : DoesRun) (outer_value inner_value : RunMeaning) → RunsDo outer outer_value → RunsDo inner inner_value → ArrayCallsMatch (group_results (core_of_code code)) (call_does code outer inner) (call_by (core_of_code code) outer_value inner_value)
  calls_do outer inner outer_value inner_value outers inners g vs s h others owns full = go (chosen core g (map (read h) vs)) refl
    where
      decided : (place : ℕ) (f : CodeFunTerm) → slice_get code.functions place ≡ Some f → length vs ≡ length (code_param_vars f) → all_have (param_types (core_of_fun f)) (map (read h) vs) ≡ true → (b : Bool) → Matches (length f.results) others h ((if b then inner place vs s else outer place vs s) h) (if b then inner_value place (map (read h) vs) s else outer_value place (map (read h) vs) s)
      decided place f is size fits true = inners place f is vs s h others size owns full fits
      decided place f is size fits false = outers place f is vs s h others size owns full fits

      taken : (place : ℕ) → chosen (core_of_code code) g (map (read h) vs) ≡ Some place → IsChosen (core_of_code code) g (map (read h) vs) place → (o : Option CodeFunTerm) → slice_get code.functions place ≡ o → Matches (group_results (core_of_code code) g) others h (run_does outer inner place o vs s h) (run_chosen outer_value inner_value place (option_map core_of_fun o) (map (read h) vs) s)
      taken place is c None at = elim (no_some (sym (ap (option_map core_of_fun) at) ∙ sym (slice_map code.functions place) ∙ c.there)) [ ]
      taken place is c (Some f) at =
          let same : core_of_fun f ≡ c.function = some_same (sym (ap (option_map core_of_fun) at) ∙ sym (slice_map code.functions place) ∙ c.there) in
          let size = sym (map_length (read h) vs) ∙ c.params ∙ ap (λ (t : FunTerm). length (param_types t)) (sym same) ∙ map_length (λ (p : Var × ArrayType). p.1) f.params ∙ sym (map_length (λ (p : Var × ArrayType). p.0) f.params) in
          subst (λ m. Matches m others h (run_does outer inner place (Some f) vs s h) (run_chosen outer_value inner_value place (Some (core_of_fun f)) (map (read h) vs) s)) (ap (λ (t : FunTerm). length t.results) same ∙ c.results)
          (decided place f at size (taken_fits core g (map (read h) vs) place (core_of_fun f) is (at_place place f at)) f.is_inline)

      go : (o : Option ℕ) → chosen (core_of_code code) g (map (read h) vs) ≡ o → Matches (group_results (core_of_code code) g) others h (chosen_does code outer inner o vs s h) (call_chosen (core_of_code code) outer_value inner_value o (map (read h) vs) s)
      go None is = refl
      go (Some place) is =
          subst (λ o. Matches (group_results core g) others h (run_does outer inner place (slice_get code.functions place) vs s h) (run_chosen outer_value inner_value place o (map (read h) vs) s)) (sym (slice_map code.functions place))
          (taken place is (is_chosen core counted.core g (map (read h) vs) place is) (slice_get code.functions place) refl)

  -- a function by its place
  at_runs : (does_calls : DoesCalls) (calls : CallMeaning) → ArrayCallsMatch (group_results (core_of_code code)) does_calls calls → CallsKeep (core_of_code code) calls → (place : ℕ) (f : CodeFunTerm) → slice_get code.functions place ≡ Some f → (vs : List Value) (s : Site) (h : Heap) (others : ℕ → ℕ) → length vs ≡ length (code_param_vars f) → Owns h vs others → DescribeAll [] (map (read h) vs)
      → all_have (param_types (core_of_fun f)) (map (read h) vs) ≡ true → Matches (length f.results) others h (body_does turns does_calls (slice_get code.functions place) vs s h) (body_of turns calls (slice_get (core_of_code code).functions place) (map (read h) vs) s)
  at_runs does_calls calls match keep place f is vs s h others size owns full fits =
      subst (λ o. Matches (length f.results) others h (body_does turns does_calls (slice_get code.functions place) vs s h) (body_of turns calls o (map (read h) vs) s)) (sym (slice_map code.functions place))
      (subst (λ o. Matches (length f.results) others h (body_does turns does_calls o vs s h) (body_of turns calls (option_map core_of_fun o) (map (read h) vs) s)) (sym is)
      (function_runs does_calls calls match keep place f is vs h others size owns full fits))

  inline_do : (outer : DoesRun) (outer_value : RunMeaning) → RunsDo outer outer_value → RunKeeps (core_of_code code) outer_value → (nest : ℕ) → RunsDo (inline_does code turns outer nest) (run_inline (core_of_code code) turns outer_value nest)
  inline_do outer outer_value outers keeps zero place f is vs s h others size owns full fits = refl
  inline_do outer outer_value outers keeps (suc nest) place f is vs s h others size owns full fits =
      let arrays = keeps_arrays core counted.core in
      at_runs (call_does code outer (inline_does code turns outer nest)) (call_by core outer_value (run_inline core turns outer_value nest))
      (calls_do outer (inline_does code turns outer nest) outer_value (run_inline core turns outer_value nest) outers (inline_do outer outer_value outers keeps nest))
      (call_keeps core turns arrays outer_value (run_inline core turns outer_value nest) keeps (inline_keeps core turns arrays outer_value nest keeps)) place f is vs s h others size owns full fits

  -- what calls do where so many levels are left
  level_does : (outer : DoesRun) (outer_value : RunMeaning) → RunsDo outer outer_value → RunKeeps (core_of_code code) outer_value → ArrayCallsMatch (group_results (core_of_code code)) (call_does code outer (inline_does code turns outer (length code.functions))) (call_by (core_of_code code) outer_value (run_inline (core_of_code code) turns outer_value (length (core_of_code code).functions)))
  level_does outer outer_value outers keeps =
      subst (λ n. ArrayCallsMatch (group_results core) (call_does code outer (inline_does code turns outer (length code.functions))) (call_by core outer_value (run_inline core turns outer_value n))) (sym (map_size code.functions))
      (calls_do outer (inline_does code turns outer (length code.functions)) outer_value (run_inline core turns outer_value (length code.functions)) outers (inline_do outer outer_value outers keeps (length code.functions)))

  deeper_do : (left : ℕ) → RunsDo (deeper_does code turns left) (run_deeper (core_of_code code) turns left)
  deeper_do zero place f is vs s h others size owns full fits = refl
  deeper_do (suc left) place f is vs s h others size owns full fits =
      let arrays = keeps_arrays core counted.core in
      at_runs (call_does code (deeper_does code turns left) (inline_does code turns (deeper_does code turns left) (length code.functions))) (call_by core (run_deeper core turns left) (run_inline core turns (run_deeper core turns left) (length core.functions)))
      (level_does (deeper_does code turns left) (run_deeper core turns left) (deeper_do left) (deeper_keeps core turns arrays left)) (level_keeps core turns arrays (run_deeper core turns left) (deeper_keeps core turns arrays left)) place f is vs s h others size owns full fits

  pub top_does : (depth : ℕ) → ArrayCallsMatch (group_results (core_of_code code)) (call_does_at code turns depth) (call_at (core_of_code code) turns depth)
  top_does depth = level_does (deeper_does code turns depth) (run_deeper core turns depth) (deeper_do depth) (deeper_keeps core turns (keeps_arrays core counted.core) depth)

  pub top_keeps : (depth : ℕ) → CallsKeep (core_of_code code) (call_at (core_of_code code) turns depth)
  top_keeps depth = level_keeps core turns (keeps_arrays core counted.core) (run_deeper core turns depth) (deeper_keeps core turns (keeps_arrays core counted.core) depth)
