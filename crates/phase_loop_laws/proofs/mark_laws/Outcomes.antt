-- A whole run of well-marked code ends as its core does, and leaves no buffer.
use Rattle.std.proofs.Common.{◌≡◌, ℕ, ◌+◌, Bool, true, false, List, [], ◌∷◌, length, Option, Some, None, refl, ◌∙◌, sym, subst}
use Rattle.std.specs.Prelude.{if◌then◌else◌, slice_get, option_map}
use Rattle.sac_base.specs.declared.faults.Caps.{Caps}
use Rattle.sac_base.specs.declared.faults.FaultKind.TheVariants.{F7}
use Rattle.sac_base.specs.declared.types.ArrayType.{ArrayType}
use Rattle.sac_base.specs.Arrays.{ArrayValue}
use Rattle.sac_base.specs.Outcomes.{fault}
use Rattle.sac_base.specs.Types.{all_have}
use Rattle.core_ir.specs.declared.tree.Var.{Var}
use Rattle.core_ir.specs.Outcome.{call_at, main_value, function_value, outcome}
use Rattle.core_facts.specs.calls.Arrays.{AllFull}
use Rattle.counted_code.specs.Terms.{CodeFunTerm, CodeProgram, core_of_fun, core_of_code}
use Rattle.counted_code.specs.Values.{empty_heap, Failed, then_go, place_all}
use Rattle.counted_code.specs.Outcome.{code_param_types, function_does, call_does_at, copied_out, main_does, whole_run}
use Rattle.counted_code.specs.Counts.{IsWellCounted}
use Rattle.counted_laws.proofs.Instances.{have_length}
use Rattle.counted_laws.proofs.Functions.{slice_map, map_length}
use Rattle.counted_laws.proofs.Outcomes.{ends_as_core as ends_without_marks, all_placed, EndsAs, nobody, after_placing, empty_owns}
use Rattle.counted_laws.proofs.mark_places.Programs.{code_core, code_counted}
use Rattle.counted_marks.specs.Marks.{IsWellMarked}
use Rattle.counted_marks.specs.Marking.{marking_code}
use Rattle.counted_marks.proofs.Left.{code_well}
use Rattle.counted_marks.proofs.Marked.{code_marked}
use Rattle.phase_loop_laws.specs.mark_laws.Statements.{MarkingKeepsTheOutcome}
use Rattle.phase_loop_laws.proofs.mark_laws.Functions.{function_runs, top_does, top_keeps}

pub ends_as_core : (code : CodeProgram) → IsWellCounted code → IsWellMarked code → (args : List ArrayValue) → AllFull args → (caps : Caps) → EndsAs (whole_run code args caps) (outcome (core_of_code code) args caps)
ends_as_core code counted well args full caps =
    subst (λ o. EndsAs (whole_run code args caps) (main_value caps.turns (call_at (core_of_code code) caps.turns caps.depth) o args)) (sym (slice_map code.functions code.main))
    (go (slice_get code.functions code.main) refl)
  where
    called : (f : CodeFunTerm) → slice_get code.functions code.main ≡ Some f → (fits : Bool) → all_have (code_param_types f) args ≡ fits
        → EndsAs ((if fits then then_go (place_all args) (λ vs. then_go (function_does caps.turns (call_does_at code caps.turns caps.depth) f vs) copied_out) else (λ h. Failed (record { kind = F7; site = f.site }) h.phases)) empty_heap) (if fits then function_value caps.turns (call_at (core_of_code code) caps.turns caps.depth) (core_of_fun f) args else fault F7 f.site)
    called f is false e = (refl, tt, tt)
    called f is true e =
        let size = have_length (code_param_types f) args e ∙ map_length (λ (p : Var × ArrayType). p.1) f.params ∙ sym (map_length (λ (p : Var × ArrayType). p.0) f.params) in
        after_placing (length args) (length f.results) args (function_does caps.turns (call_does_at code caps.turns caps.depth) f) (function_value caps.turns (call_at (core_of_code code) caps.turns caps.depth) (core_of_fun f))
        (all_placed args empty_heap nobody empty_owns)
        (λ vs k z o same. function_runs code counted well caps.turns (call_does_at code caps.turns caps.depth) (call_at (core_of_code code) caps.turns caps.depth) (top_does code counted well caps.turns caps.depth) (top_keeps code counted well caps.turns caps.depth) code.main f is vs k nobody (z ∙ size) o
        (subst AllFull (sym same) full) (subst (λ ws. all_have (code_param_types f) ws ≡ true) (sym same) e))

    go : (o : Option CodeFunTerm) → slice_get code.functions code.main ≡ o → EndsAs (main_does caps.turns (call_does_at code caps.turns caps.depth) o args empty_heap) (main_value caps.turns (call_at (core_of_code code) caps.turns caps.depth) (option_map core_of_fun o) args)
    go None is = (refl, tt, tt)
    go (Some f) is = called f is (all_have (code_param_types f) args) refl

-- ---- marking

pub marking_keeps : MarkingKeepsTheOutcome
marking_keeps code counted unmarked args full caps =
    let made = marking_code code in
    (ends_as_core made (code_counted code made (code_marked code) counted) (code_well code unmarked) args full caps).0
    ∙ (λ i. outcome (code_core code made (code_marked code) i) args caps)
    ∙ sym (ends_without_marks code counted unmarked args caps).0
