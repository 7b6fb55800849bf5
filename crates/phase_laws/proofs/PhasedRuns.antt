-- Functions and whole runs on the machine that runs phases in chunks.
use Rattle.std.proofs.Common.{◌≡◌, ℕ, zero, suc, ◌%◌, ◌^◌, Bool, true, false, List, [], ◌∷◌, map, length, Option, Some, None, Ok, Err, refl, ap, ◌∙◌, sym, subst, true≢false}
use Rattle.std.specs.Prelude.{if◌then◌else◌, slice_get, option_map}
use Rattle.std.proofs.lemmas.List.{append-nil}
use Rattle.sac_base.specs.declared.faults.Caps.{Caps}
use Rattle.sac_base.specs.declared.faults.Fault.{Fault}
use Rattle.sac_base.specs.declared.faults.FaultKind.TheVariants.{F7}
use Rattle.sac_base.specs.declared.site.Site.{Site}
use Rattle.sac_base.specs.declared.types.ArrayType.{ArrayType}
use Rattle.sac_base.specs.Arrays.{ArrayValue}
use Rattle.sac_base.specs.Outcomes.{and_then, fault}
use Rattle.sac_base.specs.Types.{all_have}
use Rattle.core_ir.specs.declared.tree.Var.{Var}
use Rattle.core_ir.specs.Meaning.{Answer, no_variables, bind_all, run}
use Rattle.core_ir.specs.Outcome.{RunMeaning, results_in, function_value, body_of, call_by, call_at, run_inline, run_deeper, main_value, outcome}
use Rattle.core_ir.specs.Terms.{CoreTerm}
use Rattle.counted_code.specs.Counts.{CountedFunction, IsWellCounted, IsUnmarked, Unmarked, group_results}
use Rattle.counted_code.specs.Machine.{DoesCalls, no_values, bind_values}
use Rattle.counted_code.specs.Outcome.{DoesRun, code_param_types, code_param_vars, results_do, call_does, inline_does, deeper_does, call_does_at, copied_out, whole_run, outcome_of, cost_of, phases_of}
use Rattle.counted_code.specs.Terms.{CodeFunTerm, CodeProgram, core_of_fun, core_of_code}
use Rattle.counted_code.specs.Values.{Heap, empty_heap, Value, Ended, Done, Failed, Doing, fails, go_on, then_go, read, place_all}
use Rattle.counted_laws.specs.Simulation.{Owns, CallsMatch, LeavesNothing, GivesAllBack}
use Rattle.counted_laws.proofs.Bound.{turn_ready}
use Rattle.counted_laws.proofs.Functions.{RunsMatch, slice_map, map_length, counted_at, unmarked_at, calls_matched, deeper_matched, none_nil}
use Rattle.counted_laws.proofs.Instances.{have_length}
use Rattle.counted_laws.proofs.Outcomes.{ends_as_core, copied, nobody, empty_owns}
use Rattle.phase_laws.specs.Alone.{Context, Spent, CallsSpend, SpentInAll}
use Rattle.phase_laws.specs.Numbers.{CallsAreBlind}
use Rattle.phase_laws.specs.Phased.{Cut, phased, function_phased, body_phased, inline_phased, deeper_phased, calls_phased, main_phased, phased_run}
use Rattle.phase_laws.specs.Spending.{Spending, RunSpending, nothing, both, body_spends, calls_spend, inline_spends, deeper_spends, calls_spend_at, main_spends, whole_spends}
use Rattle.phase_laws.proofs.Blind.{RunsAreBlind, call_blind, inline_blind, deeper_blind, calls_blind}
use Rattle.phase_laws.proofs.Functions.{RunsSpend, calls_spent, inline_spent, inside, deeper_spent, top}
use Rattle.phase_laws.proofs.PhaseCells.{Goes}
use Rattle.phase_laws.proofs.Phases.{block_goes}
use Rattle.phase_laws.proofs.Runs.{Placed, all_placed, copied_spends, placing_all, run_spends, in_all}
use Rattle.phase_laws.proofs.Spent.{spent_both}

-- ---- one function

typed_goes : (types : List ArrayType) (site : Site) (others : ℕ → ℕ) (h k : Heap) (vs : List Value) (s : Spending) (fits : Bool) → Goes (length types) others h (Done vs k) (Ok (map (read k) vs)) s → Goes (length types) others h (if fits then Done vs k else fails F7 site k) (if fits then Ok (map (read k) vs) else fault F7 site) s
typed_goes types site others h k vs s true p = p
typed_goes types site others h k vs s false p = (refl, p.1.2)

results_go : (types : List ArrayType) (site : Site) (others : ℕ → ℕ) (h : Heap) (m : Ended (List Value)) (a : Answer) (s : Spending) → Goes (length types) others h m a s → Goes (length types) others h (go_on m (results_do types site)) (and_then a (results_in types site)) s
results_go types site others h (Done vs k) (Ok ws) s p =
    subst (λ us. Goes (length types) others h (results_do types site vs k) (results_in types site us) s) p.0.1
    (typed_goes types site others h k vs s (all_have types (map (read k) vs)) ((p.0.0, refl, p.0.2, p.0.3), p.1))
results_go types site others h (Failed f q) (Err g) s p = p
results_go types site others h (Done vs k) (Err g) s p = elim p.0 [ ]
results_go types site others h (Failed f q) (Ok ws) s p = elim p.0 [ ]

module _ (cut : Option Cut) where
  -- a function at as many arguments as it has parameters
  function_goes : (c : Context) → CallsAreBlind c.does_calls → (calls : DoesCalls) → CallsMatch c.results_of calls c.calls → CallsSpend calls c.call_spends → (f : CodeFunTerm) → CountedFunction c.results_of f → Unmarked f.body → (vs : List Value) (h : Heap) (others : ℕ → ℕ) → length vs ≡ length (code_param_vars f) → Owns h vs others → Goes (length f.results) others h (function_phased cut c.turns c.does_calls calls f vs h) (function_value c.turns c.calls (core_of_fun f) (map (read h) vs)) (body_spends c.turns c.calls c.call_spends (Some f) (map (read h) vs))
  function_goes c blind calls match spend f counted unmarked vs h others size owns =
      let ps : List Var = code_param_vars f in
      results_go f.results f.ends others h (phased cut c.does_calls calls c.turns f.body (bind_values no_values ps vs) h) (run c.calls c.turns (core_of_fun f).body (bind_all no_variables ps (map (read h) vs))) (body_spends c.turns c.calls c.call_spends (Some f) (map (read h) vs))
      (block_goes cut c blind calls match spend f.body unmarked (length f.results) [] ps counted.1 h (bind_values no_values ps vs) (bind_all no_variables ps (map (read h) vs)) others (turn_ready h no_values no_variables others [] ps vs tt tt size counted.0 (none_nil ps) owns))

  -- ---- all functions of a program

  module _ (code : CodeProgram) (counted : IsWellCounted code) (unmarked : IsUnmarked code) (turns : ℕ) where
    abbrev core : CoreTerm
    core = core_of_code code

    -- with as many arguments as it has parameters, each function does what it means, and spends what it is to
    abbrev RunsGo : DoesRun → RunMeaning → RunSpending → Type 0
    RunsGo doers meaners spenders = RunsMatch code counted unmarked turns doers meaners × RunsSpend code counted unmarked turns doers spenders

    -- a function by its place
    at_goes : (c : Context) → c.results_of ≡ group_results core → CallsAreBlind c.does_calls → (calls : DoesCalls) → CallsMatch c.results_of calls c.calls → CallsSpend calls c.call_spends → (place : ℕ) (f : CodeFunTerm) → slice_get code.functions place ≡ Some f → (vs : List Value) (s : Site) (h : Heap) (others : ℕ → ℕ) → length vs ≡ length (code_param_vars f) → Owns h vs others → Goes (length f.results) others h (body_phased cut c.turns c.does_calls calls (slice_get code.functions place) vs s h) (body_of c.turns c.calls (slice_get core.functions place) (map (read h) vs) s) (body_spends c.turns c.calls c.call_spends (slice_get code.functions place) (map (read h) vs))
    at_goes c results blind calls match spend place f is vs s h others size owns =
        subst (λ o. Goes (length f.results) others h (body_phased cut c.turns c.does_calls calls (slice_get code.functions place) vs s h) (body_of c.turns c.calls o (map (read h) vs) s) (body_spends c.turns c.calls c.call_spends (slice_get code.functions place) (map (read h) vs))) (sym (slice_map code.functions place))
        (subst (λ o. Goes (length f.results) others h (body_phased cut c.turns c.does_calls calls o vs s h) (body_of c.turns c.calls (option_map core_of_fun o) (map (read h) vs) s) (body_spends c.turns c.calls c.call_spends o (map (read h) vs))) (sym is)
        (function_goes c blind calls match spend f (subst (λ (r : ℕ → ℕ). CountedFunction r f) (sym results) (counted_at (group_results core) code.functions counted.functions place f is)) (unmarked_at code.functions unmarked place f is) vs h others size owns))

    -- the functions that are not inline, on the machine of cells and on this one
    module _ (cells_outer outer : DoesRun) (outer_value : RunMeaning) (outer_spends : RunSpending) (cells_match : RunsMatch code counted unmarked turns cells_outer outer_value) (cells_spend : RunsSpend code counted unmarked turns cells_outer outer_spends) (cells_blind : RunsAreBlind cells_outer) (outers : RunsGo outer outer_value outer_spends) where
      abbrev within : ℕ → Context
      within nest = inside code counted unmarked turns cells_outer outer_value outer_spends cells_match cells_spend nest (inline_spent code counted unmarked turns cells_outer outer_value outer_spends cells_match cells_spend nest)

      blind : (nest : ℕ) → CallsAreBlind (call_does code cells_outer (inline_does code turns cells_outer nest))
      blind nest = call_blind code cells_outer (inline_does code turns cells_outer nest) cells_blind (inline_blind code turns cells_outer cells_blind nest)

      abbrev inlines : ℕ → DoesRun
      inlines nest = inline_phased cut code turns cells_outer outer nest

      nested_match : (nest : ℕ) → RunsMatch code counted unmarked turns (inlines nest) (run_inline core turns outer_value nest) → CallsMatch (group_results core) (call_does code outer (inlines nest)) (call_by core outer_value (run_inline core turns outer_value nest))
      nested_match nest match = calls_matched code counted unmarked turns outer (inlines nest) outer_value (run_inline core turns outer_value nest) outers.0 match

      nested_spend : (nest : ℕ) → RunsSpend code counted unmarked turns (inlines nest) (inline_spends code turns outer_value outer_spends nest) → CallsSpend (call_does code outer (inlines nest)) (calls_spend code outer_spends (inline_spends code turns outer_value outer_spends nest))
      nested_spend nest spend = calls_spent code counted unmarked turns outer (inlines nest) outer_spends (inline_spends code turns outer_value outer_spends nest) outers.1 spend

      inline_goes : (nest : ℕ) → RunsGo (inlines nest) (run_inline core turns outer_value nest) (inline_spends code turns outer_value outer_spends nest)
      inline_goes zero = ((λ place f is vs s h others size owns. refl), (λ place f is vs s h others size owns. sym (append-nil h.phases)))
      inline_goes (suc nest) =
          let rest = inline_goes nest in
          let match = nested_match nest rest.0 in
          let spend = nested_spend nest rest.1 in (
            (λ place f is vs s h others size owns. (at_goes (within nest) refl (blind nest) (call_does code outer (inlines nest)) match spend place f is vs s h others size owns).0),
            (λ place f is vs s h others size owns. (at_goes (within nest) refl (blind nest) (call_does code outer (inlines nest)) match spend place f is vs s h others size owns).1),
          )

    abbrev LevelGoes : ℕ → Type 0
    LevelGoes left = CallsMatch (group_results core) (calls_phased cut code turns left) (call_at core turns left) × CallsSpend (calls_phased cut code turns left) (calls_spend_at code turns left)

    level_goes : (left : ℕ) → RunsGo (deeper_phased cut code turns left) (run_deeper core turns left) (deeper_spends code turns left) → LevelGoes left
    level_goes left outers =
        let cells_match = deeper_matched code counted unmarked turns left in
        let cells_spend = deeper_spent code counted unmarked turns left in
        let size = length code.functions in
        let inner = inline_goes (deeper_does code turns left) (deeper_phased cut code turns left) (run_deeper core turns left) (deeper_spends code turns left) cells_match cells_spend (deeper_blind code turns left) outers size in (
          subst (λ n. CallsMatch (group_results core) (calls_phased cut code turns left) (call_by core (run_deeper core turns left) (run_inline core turns (run_deeper core turns left) n))) (sym (map_length core_of_fun code.functions))
              (nested_match (deeper_does code turns left) (deeper_phased cut code turns left) (run_deeper core turns left) (deeper_spends code turns left) cells_match cells_spend (deeper_blind code turns left) outers size inner.0),
          nested_spend (deeper_does code turns left) (deeper_phased cut code turns left) (run_deeper core turns left) (deeper_spends code turns left) cells_match cells_spend (deeper_blind code turns left) outers size inner.1,
        )

    level_blind : (left : ℕ) → CallsAreBlind (call_does_at code turns left)
    level_blind left = calls_blind code turns left (length code.functions)

    deeper_goes : (left : ℕ) → RunsGo (deeper_phased cut code turns left) (run_deeper core turns left) (deeper_spends code turns left)
    deeper_goes zero = ((λ place f is vs s h others size owns. refl), (λ place f is vs s h others size owns. sym (append-nil h.phases)))
    deeper_goes (suc left) =
        let level = level_goes left (deeper_goes left) in (
          (λ place f is vs s h others size owns. (at_goes (top code counted unmarked turns left) refl (level_blind left) (calls_phased cut code turns left) level.0 level.1 place f is vs s h others size owns).0),
          (λ place f is vs s h others size owns. (at_goes (top code counted unmarked turns left) refl (level_blind left) (calls_phased cut code turns left) level.0 level.1 place f is vs s h others size owns).1),
        )

    pub top_goes : (depth : ℕ) → LevelGoes depth
    top_goes depth = level_goes depth (deeper_goes depth)

-- ---- a whole run

-- a run ends as the core does, leaves nothing, and has spent so much
abbrev EndsWith : Ended (List ArrayValue) → Answer → Spending → Type 0
EndsWith m a s = (outcome_of m ≡ a) × LeavesNothing m × GivesAllBack m × Spent s empty_heap m

placed_goes : (n m : ℕ) (ws : List ArrayValue) (rest : Spending) (a : List ArrayValue → Answer) (next : List Value → Doing (List Value)) (p : Ended (List Value)) → Placed n nobody empty_heap (placing_all ws) p ws → ((vs : List Value) (k : Heap) → length vs ≡ n → Owns k vs nobody → map (read k) vs ≡ ws → Goes m nobody k (next vs k) (a ws) rest) → EndsWith (go_on p (λ vs. then_go (next vs) copied_out)) (a ws) (both (placing_all ws) rest)
placed_goes n m ws rest a next (Done vs k) p go =
    let r = p.0 in
    let goes = go vs k r.0 r.2 r.1 in
    let ends = copied m k (next vs k) (a ws) goes.0 in
    (ends.0, ends.1, ends.2, spent_both (placing_all ws) rest empty_heap k vs (go_on (next vs k) copied_out) p.1 (copied_spends rest k (next vs k) goes.1))
placed_goes n m ws rest a next (Failed f q) p go = elim p.0 [ ]

module _ (cut : Option Cut) (code : CodeProgram) (counted : IsWellCounted code) (unmarked : IsUnmarked code) (args : List ArrayValue) (caps : Caps) where
  abbrev context : Context
  context = top code counted unmarked caps.turns caps.depth

  abbrev calls : DoesCalls
  calls = calls_phased cut code caps.turns caps.depth

  called : (f : CodeFunTerm) → slice_get code.functions code.main ≡ Some f → (fits : Bool) → all_have (code_param_types f) args ≡ fits → EndsWith ((if fits then then_go (place_all args) (λ vs. then_go (function_phased cut caps.turns context.does_calls calls f vs) copied_out) else (λ h. Failed (record { kind = F7; site = f.site }) h.phases)) empty_heap) (if fits then function_value caps.turns context.calls (core_of_fun f) args else fault F7 f.site) (if fits then both (placing_all args) (body_spends caps.turns context.calls context.call_spends (Some f) args) else nothing)
  called f is false e = (refl, tt, tt, refl)
  called f is true e =
      let size = have_length (code_param_types f) args e ∙ map_length (λ (p : Var × ArrayType). p.1) f.params ∙ sym (map_length (λ (p : Var × ArrayType). p.0) f.params) in
      let level = top_goes cut code counted unmarked caps.turns caps.depth in
      placed_goes (length args) (length f.results) args (body_spends caps.turns context.calls context.call_spends (Some f) args) (function_value caps.turns context.calls (core_of_fun f)) (function_phased cut caps.turns context.does_calls calls f) (place_all args empty_heap) (all_placed args empty_heap nobody empty_owns)
      (λ vs k z o w. subst (λ us. Goes (length f.results) nobody k (function_phased cut caps.turns context.does_calls calls f vs k) (function_value caps.turns context.calls (core_of_fun f) us) (body_spends caps.turns context.calls context.call_spends (Some f) us)) w
      (function_goes cut context (calls_blind code caps.turns caps.depth (length code.functions)) calls level.0 level.1 f (counted_at (group_results (core_of_code code)) code.functions counted.functions code.main f is) (unmarked_at code.functions unmarked code.main f is) vs k nobody (z ∙ size) o))

  found : (o : Option CodeFunTerm) → slice_get code.functions code.main ≡ o → EndsWith (main_phased cut caps.turns context.does_calls calls o args empty_heap) (main_value caps.turns context.calls (option_map core_of_fun o) args) (main_spends code caps.turns caps.depth o args)
  found None is = (refl, tt, tt, refl)
  found (Some f) is = called f is (all_have (code_param_types f) args) refl

  pub phased_ends : EndsWith (phased_run cut code args caps) (outcome (core_of_code code) args caps) (whole_spends code args caps)
  phased_ends =
      subst (λ o. EndsWith (phased_run cut code args caps) (main_value caps.turns context.calls o args) (whole_spends code args caps)) (sym (slice_map code.functions code.main))
      (found (slice_get code.functions code.main) refl)

abbrev is_done : Answer → Bool
is_done (Ok ws) = true
is_done (Err f) = false

differ : (ws : List ArrayValue) (f : Fault) → Ok ws ≡ Err f → ⊥
differ ws f p = true≢false (ap is_done p)

-- two runs that spend the same and end the same
same_cost : (s : Spending) (a : Answer) (m r : Ended (List ArrayValue)) → outcome_of m ≡ a → outcome_of r ≡ a → SpentInAll s m → SpentInAll s r → (cost_of m ≡ cost_of r) × (phases_of m ≡ phases_of r)
same_cost s a (Done us h) (Done vs k) p q x y =
    let taken = x.0 ∙ sym y.0 in
    let given = x.1 ∙ sym y.1 in
    let reused = x.2 ∙ sym y.2 in
    let phases = x.3 ∙ sym y.3 in
    ((λ i. record { taken = taken i % 2 ^ 64; given = given i % 2 ^ 64; reused = reused i % 2 ^ 64; phases = length (phases i) % 2 ^ 64 }), phases)
same_cost s a (Failed g ps) (Failed e qs) p q x y =
    let phases = x ∙ sym y in
    ((λ i. record { taken = 0; given = 0; reused = 0; phases = length (phases i) % 2 ^ 64 }), phases)
same_cost s a (Done us h) (Failed e qs) p q x y = elim (differ us e (p ∙ sym q)) [ ]
same_cost s a (Failed e qs) (Done us h) p q x y = elim (differ us e (q ∙ sym p)) [ ]

pub same_run : (cut : Option Cut) (code : CodeProgram) → IsWellCounted code → IsUnmarked code → (args : List ArrayValue) (caps : Caps) → (outcome_of (phased_run cut code args caps) ≡ outcome_of (whole_run code args caps)) × (cost_of (phased_run cut code args caps) ≡ cost_of (whole_run code args caps)) × (phases_of (phased_run cut code args caps) ≡ phases_of (whole_run code args caps)) × LeavesNothing (phased_run cut code args caps)
same_run cut code counted unmarked args caps =
    let ends = phased_ends cut code counted unmarked args caps in
    let whole = ends_as_core code counted unmarked args caps in
    let s = whole_spends code args caps in
    let both_cost = same_cost s (outcome (core_of_code code) args caps) (phased_run cut code args caps) (whole_run code args caps) ends.0 whole.0 (in_all s (phased_run cut code args caps) ends.3 ends.2) (run_spends code counted unmarked args caps) in
    (ends.0 ∙ sym whole.0, both_cost.0, both_cost.1, ends.1)
