-- Functions do what they mean, at every depth.
use Rattle.std.proofs.Common.{◌≡◌, ℕ, zero, suc, Bool, true, false, List, [], ◌∷◌, map, length, Option, Some, None, Ok, refl, ap, ◌∙◌, sym, subst, arith}
use Rattle.std.specs.Prelude.{if◌then◌else◌, slice_get, option_map, unwrap_or}
use Rattle.sac_base.specs.declared.faults.FaultKind.TheVariants.{F7}
use Rattle.sac_base.specs.declared.site.Site.{Site}
use Rattle.sac_base.specs.declared.types.ArrayType.{ArrayType}
use Rattle.sac_base.specs.Outcomes.{fault}
use Rattle.sac_base.specs.Types.{all_have}
use Rattle.core_ir.specs.declared.tree.Var.{Var}
use Rattle.core_ir.specs.Binders.{NoneIn}
use Rattle.core_ir.specs.Terms.{FunTerm, CoreTerm}
use Rattle.core_ir.specs.Meaning.{CallMeaning, no_variables, bind_all, run}
use Rattle.core_ir.specs.Outcome.{RunMeaning, param_types, results_in, function_value, body_of, run_chosen, call_chosen, call_by, run_inline, run_deeper, call_at, chosen}
use Rattle.counted_code.specs.Terms.{CodeFunTerm, CodeProgram, core_of, core_of_fun, core_of_code}
use Rattle.counted_code.specs.Values.{Heap, Value, Done, fails, read}
use Rattle.counted_code.specs.Machine.{DoesCalls, no_values, bind_values, does}
use Rattle.counted_code.specs.Outcome.{DoesRun, code_param_vars, results_do, function_does, body_does, run_does, chosen_does, call_does, inline_does, deeper_does, call_does_at}
use Rattle.counted_code.specs.Counts.{CountedFunction, CountedFunctions, IsWellCounted, IsUnmarked, UnmarkedFunctions, Unmarked, group_results}
use Rattle.counted_laws.specs.Simulation.{Owns, Matches, CallsMatch}
use Rattle.counted_laws.proofs.Bound.{turn_ready}
use Rattle.counted_laws.proofs.Blocks.{then_matches}
use Rattle.counted_laws.proofs.Instances.{no_some, is_chosen, IsChosen}
use Rattle.counted_laws.proofs.Whole.{block_matches}

pub none_nil : (xs : List Var) → NoneIn xs []
none_nil [] = tt
none_nil (x ∷ xs) = (refl, none_nil xs)

pub slice_map : (fs : List CodeFunTerm) (i : ℕ) → slice_get (map core_of_fun fs) i ≡ option_map core_of_fun (slice_get fs i)
slice_map [] i = refl
slice_map (f ∷ fs) zero = refl
slice_map (f ∷ fs) (suc i) = slice_map fs i

pub map_size : (fs : List CodeFunTerm) → length (map core_of_fun fs) ≡ length fs
map_size [] = refl
map_size (f ∷ fs) = ap suc (map_size fs)

pub map_length : {A B : Type 0} (f : A → B) (xs : List A) → length (map f xs) ≡ length xs
map_length f [] = refl
map_length f (x ∷ xs) = ap suc (map_length f xs)

pub some_same : {A : Type 0} {x y : A} → Some x ≡ Some y → x ≡ y
some_same {A} {x} {y} p = ap (λ (o : Option A). unwrap_or o x) p

pub counted_at : (results_of : ℕ → ℕ) (fs : List CodeFunTerm) → CountedFunctions results_of fs → (i : ℕ) (f : CodeFunTerm) → slice_get fs i ≡ Some f → CountedFunction results_of f
counted_at results_of [] c i f p = elim (no_some p) [ ]
counted_at results_of (g ∷ gs) c zero f p = subst (CountedFunction results_of) (some_same p) c.0
counted_at results_of (g ∷ gs) c (suc i) f p = counted_at results_of gs c.1 i f p

pub unmarked_at : (fs : List CodeFunTerm) → UnmarkedFunctions fs → (i : ℕ) (f : CodeFunTerm) → slice_get fs i ≡ Some f → Unmarked f.body
unmarked_at [] u i f p = elim (no_some p) [ ]
unmarked_at (g ∷ gs) u zero f p = subst (λ (x : CodeFunTerm). Unmarked x.body) (some_same p) u.0
unmarked_at (g ∷ gs) u (suc i) f p = unmarked_at gs u.1 i f p

-- ---- one function

pub typed_match : (f : CodeFunTerm) (others : ℕ → ℕ) (k : Heap) (us : List Value) (fits : Bool) → length us ≡ length f.results → Owns k us others → Matches (length f.results) others k (if fits then Done us k else fails F7 f.ends k) (if fits then Ok (map (read k) us) else fault F7 f.ends)
typed_match f others k us true size owns = (size, refl, owns, (λ b le. refl))
typed_match f others k us false size owns = refl

-- a function at as many arguments as it has parameters
pub function_matches : (results_of : ℕ → ℕ) (does_calls : DoesCalls) (calls : CallMeaning) (turns : ℕ) → CallsMatch results_of does_calls calls → (f : CodeFunTerm) → CountedFunction results_of f → Unmarked f.body → (vs : List Value) (h : Heap) (others : ℕ → ℕ) → length vs ≡ length (code_param_vars f) → Owns h vs others → Matches (length f.results) others h (function_does turns does_calls f vs h) (function_value turns calls (core_of_fun f) (map (read h) vs))
function_matches results_of does_calls calls turns match f counted unmarked vs h others size owns =
    let ps : List Var = code_param_vars f in
    then_matches (length f.results) (length f.results) others others h (does does_calls turns f.body (bind_values no_values ps vs) h) (run calls turns (core_of f.body) (bind_all no_variables ps (map (read h) vs))) (results_do f.results f.ends) (results_in f.results f.ends) (λ b. omega arith)
    (block_matches results_of does_calls calls turns match f.body unmarked (length f.results) [] ps counted.1 h (bind_values no_values ps vs) (bind_all no_variables ps (map (read h) vs)) others (turn_ready h no_values no_variables others [] ps vs tt tt size counted.0 (none_nil ps) owns))
    (λ us k z o same. typed_match f others k us (all_have f.results (map (read k) us)) z o)

-- ---- all functions of a program

module _ (code : CodeProgram) (counted : IsWellCounted code) (unmarked : IsUnmarked code) (turns : ℕ) where
  abbrev core : CoreTerm
  core = core_of_code code

  -- with as many arguments as it has parameters, each function does what it means
  abbrev pub RunsMatch : DoesRun → RunMeaning → Type 0
  RunsMatch doers meaners =
      (place : ℕ) (f : CodeFunTerm) → slice_get code.functions place ≡ Some f → (vs : List Value) (s : Site) (h : Heap) (others : ℕ → ℕ) → length vs ≡ length (code_param_vars f) → Owns h vs others → Matches (length f.results) others h (doers place vs s h) (meaners place (map (read h) vs) s)

  pub calls_matched : (outer inner : DoesRun) (outer_value inner_value : RunMeaning) → RunsMatch outer outer_value → RunsMatch inner inner_value → CallsMatch (group_results core) (call_does code outer inner) (call_by core outer_value inner_value)
  calls_matched outer inner outer_value inner_value outers inners g vs s h others owns = go (chosen core g (map (read h) vs)) refl
    where
      decided : (place : ℕ) (f : CodeFunTerm) → slice_get code.functions place ≡ Some f → length vs ≡ length (code_param_vars f) → (b : Bool) → Matches (length f.results) others h ((if b then inner place vs s else outer place vs s) h) (if b then inner_value place (map (read h) vs) s else outer_value place (map (read h) vs) s)
      decided place f is size true = inners place f is vs s h others size owns
      decided place f is size false = outers place f is vs s h others size owns

      taken : (place : ℕ) → IsChosen core g (map (read h) vs) place → (o : Option CodeFunTerm) → slice_get code.functions place ≡ o → Matches (group_results core g) others h (run_does outer inner place o vs s h) (run_chosen outer_value inner_value place (option_map core_of_fun o) (map (read h) vs) s)
      taken place c None is = elim (no_some (sym (ap (option_map core_of_fun) is) ∙ sym (slice_map code.functions place) ∙ c.there)) [ ]
      taken place c (Some f) is =
          let same : core_of_fun f ≡ c.function = some_same (sym (ap (option_map core_of_fun) is) ∙ sym (slice_map code.functions place) ∙ c.there) in
          let size = sym (map_length (read h) vs) ∙ c.params ∙ ap (λ (t : FunTerm). length (param_types t)) (sym same) ∙ map_length (λ (p : Var × ArrayType). p.1) f.params ∙ sym (map_length (λ (p : Var × ArrayType). p.0) f.params) in
          subst (λ m. Matches m others h (run_does outer inner place (Some f) vs s h) (run_chosen outer_value inner_value place (Some (core_of_fun f)) (map (read h) vs) s)) (ap (λ (t : FunTerm). length t.results) same ∙ c.results)
          (decided place f is size f.is_inline)

      go : (o : Option ℕ) → chosen core g (map (read h) vs) ≡ o → Matches (group_results core g) others h (chosen_does code outer inner o vs s h) (call_chosen core outer_value inner_value o (map (read h) vs) s)
      go None is = refl
      go (Some place) is =
          subst (λ o. Matches (group_results core g) others h (run_does outer inner place (slice_get code.functions place) vs s h) (run_chosen outer_value inner_value place o (map (read h) vs) s)) (sym (slice_map code.functions place))
          (taken place (is_chosen core counted.core g (map (read h) vs) place is) (slice_get code.functions place) refl)

  -- a function by its place
  at_matched : (does_calls : DoesCalls) (calls : CallMeaning) → CallsMatch (group_results core) does_calls calls → (place : ℕ) (f : CodeFunTerm) → slice_get code.functions place ≡ Some f → (vs : List Value) (s : Site) (h : Heap) (others : ℕ → ℕ) → length vs ≡ length (code_param_vars f) → Owns h vs others → Matches (length f.results) others h (body_does turns does_calls (slice_get code.functions place) vs s h) (body_of turns calls (slice_get core.functions place) (map (read h) vs) s)
  at_matched does_calls calls match place f is vs s h others size owns =
      subst (λ o. Matches (length f.results) others h (body_does turns does_calls (slice_get code.functions place) vs s h) (body_of turns calls o (map (read h) vs) s)) (sym (slice_map code.functions place))
      (subst (λ o. Matches (length f.results) others h (body_does turns does_calls o vs s h) (body_of turns calls (option_map core_of_fun o) (map (read h) vs) s)) (sym is)
      (function_matches (group_results core) does_calls calls turns match f (counted_at (group_results core) code.functions counted.functions place f is) (unmarked_at code.functions unmarked place f is) vs h others size owns))

  pub inline_matched : (outer : DoesRun) (outer_value : RunMeaning) → RunsMatch outer outer_value → (nest : ℕ) → RunsMatch (inline_does code turns outer nest) (run_inline core turns outer_value nest)
  inline_matched outer outer_value outers zero place f is vs s h others size owns = refl
  inline_matched outer outer_value outers (suc nest) place f is vs s h others size owns =
      at_matched (call_does code outer (inline_does code turns outer nest)) (call_by core outer_value (run_inline core turns outer_value nest))
      (calls_matched outer (inline_does code turns outer nest) outer_value (run_inline core turns outer_value nest) outers (inline_matched outer outer_value outers nest)) place f is vs s h others size owns

  -- what calls do where so many levels are left
  abbrev LevelMatches : DoesRun → RunMeaning → Type 0
  LevelMatches outer outer_value = CallsMatch (group_results core) (call_does code outer (inline_does code turns outer (length code.functions))) (call_by core outer_value (run_inline core turns outer_value (length core.functions)))

  pub level_matched : (outer : DoesRun) (outer_value : RunMeaning) → RunsMatch outer outer_value → LevelMatches outer outer_value
  level_matched outer outer_value outers =
      subst (λ n. CallsMatch (group_results core) (call_does code outer (inline_does code turns outer (length code.functions))) (call_by core outer_value (run_inline core turns outer_value n))) (sym (map_size code.functions))
      (calls_matched outer (inline_does code turns outer (length code.functions)) outer_value (run_inline core turns outer_value (length code.functions)) outers (inline_matched outer outer_value outers (length code.functions)))

  pub deeper_matched : (left : ℕ) → RunsMatch (deeper_does code turns left) (run_deeper core turns left)
  deeper_matched zero place f is vs s h others size owns = refl
  deeper_matched (suc left) place f is vs s h others size owns =
      at_matched (call_does code (deeper_does code turns left) (inline_does code turns (deeper_does code turns left) (length code.functions))) (call_by core (run_deeper core turns left) (run_inline core turns (run_deeper core turns left) (length core.functions)))
      (level_matched (deeper_does code turns left) (run_deeper core turns left) (deeper_matched left)) place f is vs s h others size owns

  pub top_matched : (depth : ℕ) → CallsMatch (group_results core) (call_does_at code turns depth) (call_at core turns depth)
  top_matched depth = level_matched (deeper_does code turns depth) (run_deeper core turns depth) (deeper_matched depth)
