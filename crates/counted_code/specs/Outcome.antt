-- What calls do, and the outcome and the cost of counted code, in the same words as a core's outcome.
use Rattle.std.specs.Prelude.{ℕ, zero, suc, ◌%◌, ◌^◌, if◌then◌else◌, List, map, length, Option, Some, None, Ok, Err, slice_get}
use Rattle.sac_base.specs.declared.faults.Caps.{Caps}
use Rattle.sac_base.specs.declared.faults.FaultKind.TheVariants.{F7, F10}
use Rattle.sac_base.specs.declared.site.Site.{Site}
use Rattle.sac_base.specs.declared.types.ArrayType.{ArrayType}
use Rattle.sac_base.specs.Arrays.{ArrayValue}
use Rattle.sac_base.specs.Types.{all_have}
use Rattle.core_ir.specs.declared.tree.Var.{Var}
use Rattle.core_ir.specs.Meaning.{Answer}
use Rattle.core_ir.specs.Outcome.{chosen, start_of_source}
use Rattle.counted_code.specs.declared.tree.Cost.{Cost}
use Rattle.counted_code.specs.Terms.{CodeFunTerm, CodeProgram, core_of_code}
use Rattle.counted_code.specs.Values.{empty_heap, Value, Ended, Done, Failed, Doing, then_go, fails, read, place_all, release_all}
use Rattle.counted_code.specs.Machine.{DoesCalls, no_values, bind_values, does}

abbrev pub code_param_types : CodeFunTerm → List ArrayType
code_param_types f = map (λ (p : Var × ArrayType). p.1) f.params

abbrev pub code_param_vars : CodeFunTerm → List Var
code_param_vars f = map (λ (p : Var × ArrayType). p.0) f.params

-- ---- calls

-- what the function at a place does with values, when it is called at a site
abbrev pub DoesRun : Type 0
DoesRun = ℕ → List Value → Site → Doing (List Value)

abbrev pub results_do : List ArrayType → Site → List Value → Doing (List Value)
results_do types site vs heap = if all_have types (map (read heap) vs) then Done vs heap else fails F7 site heap

-- a function on values, where `calls` is what the calls in it do
abbrev pub function_does : ℕ → DoesCalls → CodeFunTerm → List Value → Doing (List Value)
function_does turns calls f vs =
    then_go (does calls turns f.body (bind_values no_values (code_param_vars f) vs)) (results_do f.results f.ends)

abbrev pub body_does : ℕ → DoesCalls → Option CodeFunTerm → List Value → Site → Doing (List Value)
body_does turns calls None vs site = fails F7 site
body_does turns calls (Some f) vs site = function_does turns calls f vs

abbrev pub run_does : DoesRun → DoesRun → ℕ → Option CodeFunTerm → List Value → Site → Doing (List Value)
run_does outer inner place None vs site = fails F7 site
run_does outer inner place (Some f) vs site = if f.is_inline then inner place vs site else outer place vs site

module _ (code : CodeProgram) where
  abbrev pub chosen_does : DoesRun → DoesRun → Option ℕ → List Value → Site → Doing (List Value)
  chosen_does outer inner None vs site = fails F7 site
  chosen_does outer inner (Some place) vs site = run_does outer inner place (slice_get code.functions place) vs site

  -- a call takes the instance that it takes in the core; `outer` runs one that is not inline, and `inner` one that is
  abbrev pub call_does : DoesRun → DoesRun → DoesCalls
  call_does outer inner group vs site heap =
      chosen_does outer inner (chosen (core_of_code code) group (map (read heap) vs)) vs site heap

  module _ (turns : ℕ) where
    -- an inline function runs at its caller's depth
    abbrev pub inline_does : DoesRun → ℕ → DoesRun
    inline_does outer zero place vs site = fails F10 site
    inline_does outer (suc nest) place vs site =
        body_does turns (call_does outer (inline_does outer nest)) (slice_get code.functions place) vs site

    -- a function that is not inline runs one level deeper than its caller, of which so many are left
    abbrev pub deeper_does : ℕ → DoesRun
    deeper_does zero place vs site = fails F10 site
    deeper_does (suc left) place vs site =
        body_does turns (call_does (deeper_does left) (inline_does (deeper_does left) (length code.functions))) (slice_get code.functions place) vs site

    -- what calls do where so many levels are left
    abbrev pub call_does_at : ℕ → DoesCalls
    call_does_at left = call_does (deeper_does left) (inline_does (deeper_does left) (length code.functions))

-- ---- a whole run

-- main's results are copied out and released
abbrev pub copied_out : List Value → Doing (List ArrayValue)
copied_out vs heap = Done (map (read heap) vs) (release_all vs heap)

-- the arguments are placed, and handed on to main
abbrev pub main_does : ℕ → DoesCalls → Option CodeFunTerm → List ArrayValue → Doing (List ArrayValue)
main_does turns calls None args = fails F7 start_of_source
main_does turns calls (Some f) args =
    if all_have (code_param_types f) args
    then then_go (place_all args) (λ vs. then_go (function_does turns calls f vs) copied_out)
    else fails F7 f.site

-- the run on arguments from an empty heap, under limits on the turns of each loop and on the depth of calls
abbrev pub whole_run : CodeProgram → List ArrayValue → Caps → Ended (List ArrayValue)
whole_run code args caps =
    main_does caps.turns (call_does_at code caps.turns caps.depth) (slice_get code.functions code.main) args empty_heap

-- its outcome
abbrev pub outcome_of : Ended (List ArrayValue) → Answer
outcome_of (Done ws heap) = Ok ws
outcome_of (Failed f phases) = Err f

-- its cost; a run that ends with a fault costs its phases alone
abbrev pub cost_of : Ended (List ArrayValue) → Cost
cost_of (Done ws heap) = record {
  taken = heap.taken % 2 ^ 64;
  given = heap.given % 2 ^ 64;
  reused = heap.reused % 2 ^ 64;
  phases = length heap.phases % 2 ^ 64;
}
cost_of (Failed f phases) = record { taken = 0; given = 0; reused = 0; phases = length phases % 2 ^ 64 }

-- the numbers of positions of its phases
abbrev pub phases_of : Ended (List ArrayValue) → List ℕ
phases_of (Done ws heap) = heap.phases
phases_of (Failed f phases) = phases
