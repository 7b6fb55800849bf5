-- Functions spend on a heap what they spend on arrays, at every depth.
use Rattle.std.proofs.Common.{◌≡◌, ℕ, zero, suc, Bool, true, false, List, [], ◌∷◌, map, length, Option, Some, None, refl, ap, ◌∙◌, sym, subst}
use Rattle.std.specs.Prelude.{if◌then◌else◌, slice_get, option_map}
use Rattle.std.proofs.lemmas.List.{append-nil}
use Rattle.sac_base.specs.declared.faults.FaultKind.TheVariants.{F7}
use Rattle.sac_base.specs.declared.site.Site.{Site}
use Rattle.sac_base.specs.declared.types.ArrayType.{ArrayType}
use Rattle.sac_base.specs.Types.{all_have}
use Rattle.core_ir.specs.declared.tree.Var.{Var}
use Rattle.core_ir.specs.Meaning.{no_variables, bind_all}
use Rattle.core_ir.specs.Outcome.{RunMeaning, param_types, call_by, call_at, chosen, run_inline, run_deeper}
use Rattle.core_ir.specs.Terms.{FunTerm, CoreTerm}
use Rattle.counted_code.specs.Counts.{CountedFunction, IsWellCounted, IsUnmarked, Unmarked, group_results}
use Rattle.counted_code.specs.Machine.{no_values, bind_values, does}
use Rattle.counted_code.specs.Outcome.{DoesRun, code_param_vars, results_do, function_does, body_does, run_does, chosen_does, call_does, inline_does, deeper_does, call_does_at}
use Rattle.counted_code.specs.Terms.{CodeFunTerm, CodeProgram, core_of_fun, core_of_code}
use Rattle.counted_code.specs.Values.{Heap, Value, Ended, Done, Failed, fails, go_on, read}
use Rattle.counted_laws.specs.Simulation.{Owns}
use Rattle.counted_laws.proofs.Bound.{turn_ready}
use Rattle.counted_laws.proofs.Functions.{RunsMatch, slice_map, map_length, some_same, counted_at, unmarked_at, calls_matched, inline_matched, deeper_matched, top_matched, none_nil}
use Rattle.counted_laws.proofs.Instances.{is_chosen, IsChosen}
use Rattle.phase_laws.specs.Alone.{Spent, CallsSpend, Context}
use Rattle.phase_laws.specs.Spending.{Spending, RunSpending, body_spends, run_spends, chosen_spends, calls_spend, inline_spends, deeper_spends, calls_spend_at}
use Rattle.phase_laws.proofs.Whole.{block_spends}

-- ---- one function

typed_spends : (s : Spending) (h k : Heap) (types : List ArrayType) (site : Site) (vs : List Value) (fits : Bool) → Spent s h (Done vs k) → Spent s h (if fits then Done vs k else fails F7 site k)
typed_spends s h k types site vs true p = p
typed_spends s h k types site vs false p = p.2

results_spend : (s : Spending) (h : Heap) (types : List ArrayType) (site : Site) (m : Ended (List Value)) → Spent s h m → Spent s h (go_on m (results_do types site))
results_spend s h types site (Done vs k) p = typed_spends s h k types site vs (all_have types (map (read k) vs)) p
results_spend s h types site (Failed f ps) p = p

-- a function at as many arguments as it has parameters
pub function_spends : (c : Context) (f : CodeFunTerm) → CountedFunction c.results_of f → Unmarked f.body → (vs : List Value) (h : Heap) (others : ℕ → ℕ) → length vs ≡ length (code_param_vars f) → Owns h vs others → Spent (body_spends c.turns c.calls c.call_spends (Some f) (map (read h) vs)) h (function_does c.turns c.does_calls f vs h)
function_spends c f counted unmarked vs h others size owns =
    let ps : List Var = code_param_vars f in
    results_spend (body_spends c.turns c.calls c.call_spends (Some f) (map (read h) vs)) h f.results f.ends (does c.does_calls c.turns f.body (bind_values no_values ps vs) h)
    (block_spends c f.body unmarked (length f.results) [] ps counted.1 h (bind_values no_values ps vs) (bind_all no_variables ps (map (read h) vs)) others (turn_ready h no_values no_variables others [] ps vs tt tt size counted.0 (none_nil ps) owns))

-- ---- all functions of a program

module _ (code : CodeProgram) (counted : IsWellCounted code) (unmarked : IsUnmarked code) (turns : ℕ) where
  abbrev core : CoreTerm
  core = core_of_code code

  -- with as many arguments as it has parameters, each function spends what it is to
  abbrev pub RunsSpend : DoesRun → RunSpending → Type 0
  RunsSpend doers spenders =
      (place : ℕ) (f : CodeFunTerm) → slice_get code.functions place ≡ Some f → (vs : List Value) (s : Site) (h : Heap) (others : ℕ → ℕ) → length vs ≡ length (code_param_vars f) → Owns h vs others → Spent (spenders place (map (read h) vs)) h (doers place vs s h)

  pub calls_spent : (outer inner : DoesRun) (outer_spends inner_spends : RunSpending) → RunsSpend outer outer_spends → RunsSpend inner inner_spends → CallsSpend (call_does code outer inner) (calls_spend code outer_spends inner_spends)
  calls_spent outer inner outer_spends inner_spends outers inners g vs s h others owns = go (chosen core g (map (read h) vs)) refl
    where
      decided : (place : ℕ) (f : CodeFunTerm) → slice_get code.functions place ≡ Some f → length vs ≡ length (code_param_vars f) → (b : Bool) → Spent (if b then inner_spends place (map (read h) vs) else outer_spends place (map (read h) vs)) h ((if b then inner place vs s else outer place vs s) h)
      decided place f is size true = inners place f is vs s h others size owns
      decided place f is size false = outers place f is vs s h others size owns

      taken : (place : ℕ) → IsChosen core g (map (read h) vs) place → (o : Option CodeFunTerm) → slice_get code.functions place ≡ o → Spent (run_spends outer_spends inner_spends place o (map (read h) vs)) h (run_does outer inner place o vs s h)
      taken place i None is = sym (append-nil h.phases)
      taken place i (Some f) is =
          let same : core_of_fun f ≡ i.function = some_same (sym (ap (option_map core_of_fun) is) ∙ sym (slice_map code.functions place) ∙ i.there) in
          let size = sym (map_length (read h) vs) ∙ i.params ∙ ap (λ (t : FunTerm). length (param_types t)) (sym same) ∙ map_length (λ (p : Var × ArrayType). p.1) f.params ∙ sym (map_length (λ (p : Var × ArrayType). p.0) f.params) in
          decided place f is size f.is_inline

      go : (o : Option ℕ) → chosen core g (map (read h) vs) ≡ o → Spent (chosen_spends code outer_spends inner_spends o (map (read h) vs)) h (chosen_does code outer inner o vs s h)
      go None is = sym (append-nil h.phases)
      go (Some place) is = taken place (is_chosen core counted.core g (map (read h) vs) place is) (slice_get code.functions place) refl

  -- a function by its place
  at_spent : (c : Context) → c.results_of ≡ group_results core → (place : ℕ) (f : CodeFunTerm) → slice_get code.functions place ≡ Some f → (vs : List Value) (s : Site) (h : Heap) (others : ℕ → ℕ) → length vs ≡ length (code_param_vars f) → Owns h vs others → Spent (body_spends c.turns c.calls c.call_spends (slice_get code.functions place) (map (read h) vs)) h (body_does c.turns c.does_calls (slice_get code.functions place) vs s h)
  at_spent c results place f is vs s h others size owns =
      subst (λ o. Spent (body_spends c.turns c.calls c.call_spends o (map (read h) vs)) h (body_does c.turns c.does_calls o vs s h)) (sym is)
      (function_spends c f (subst (λ (r : ℕ → ℕ). CountedFunction r f) (sym results) (counted_at (group_results core) code.functions counted.functions place f is)) (unmarked_at code.functions unmarked place f is) vs h others size owns)

  module _ (outer : DoesRun) (outer_value : RunMeaning) (outer_spends : RunSpending) (outers_match : RunsMatch code counted unmarked turns outer outer_value) (outers_spend : RunsSpend outer outer_spends) where
    -- the body of an inline function, where calls of those may nest so deep
    abbrev pub inside : (nest : ℕ) → RunsSpend (inline_does code turns outer nest) (inline_spends code turns outer_value outer_spends nest) → Context
    inside nest inners = record {
      results_of = group_results core;
      does_calls = call_does code outer (inline_does code turns outer nest);
      calls = call_by core outer_value (run_inline core turns outer_value nest);
      turns = turns;
      call_spends = calls_spend code outer_spends (inline_spends code turns outer_value outer_spends nest);
      matching = calls_matched code counted unmarked turns outer (inline_does code turns outer nest) outer_value (run_inline core turns outer_value nest) outers_match (inline_matched code counted unmarked turns outer outer_value outers_match nest);
      spending = calls_spent outer (inline_does code turns outer nest) outer_spends (inline_spends code turns outer_value outer_spends nest) outers_spend inners;
    }

    pub inline_spent : (nest : ℕ) → RunsSpend (inline_does code turns outer nest) (inline_spends code turns outer_value outer_spends nest)
    inline_spent zero place f is vs s h others size owns = sym (append-nil h.phases)
    inline_spent (suc nest) place f is vs s h others size owns = at_spent (inside nest (inline_spent nest)) refl place f is vs s h others size owns

    pub level_spent : (nest : ℕ) → CallsSpend (call_does code outer (inline_does code turns outer nest)) (calls_spend code outer_spends (inline_spends code turns outer_value outer_spends nest))
    level_spent nest = calls_spent outer (inline_does code turns outer nest) outer_spends (inline_spends code turns outer_value outer_spends nest) outers_spend (inline_spent nest)

  -- a body, where so many levels are left
  abbrev below : (left : ℕ) → RunsSpend (deeper_does code turns left) (deeper_spends code turns left) → Context
  below left deeper = record {
    results_of = group_results core;
    does_calls = call_does_at code turns left;
    calls = call_at core turns left;
    turns = turns;
    call_spends = calls_spend_at code turns left;
    matching = top_matched code counted unmarked turns left;
    spending = level_spent (deeper_does code turns left) (run_deeper core turns left) (deeper_spends code turns left) (deeper_matched code counted unmarked turns left) deeper (length code.functions);
  }

  pub deeper_spent : (left : ℕ) → RunsSpend (deeper_does code turns left) (deeper_spends code turns left)
  deeper_spent zero place f is vs s h others size owns = sym (append-nil h.phases)
  deeper_spent (suc left) place f is vs s h others size owns = at_spent (below left (deeper_spent left)) refl place f is vs s h others size owns

  -- what main runs in
  abbrev pub top : (depth : ℕ) → Context
  top depth = below depth (deeper_spent depth)
