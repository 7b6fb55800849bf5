use Rattle.std.proofs.Common.{◌≡◌, ◌∙◌, length, sym, ap, subst, arith}
use Rattle.buffer_heap.specs.Heaps.{HeapValue}
use Rattle.counted_code.specs.Values.{empty_heap}
use Rattle.counted_code.specs.Outcome.{cost_of, outcome_of, whole_run}
use Rattle.counted_code.specs.View.{code_program}
use Rattle.counted_laws.proofs.Outcomes.{even_cost}
use Rattle.phase_loop_laws.proofs.mark_laws.Outcomes.{ends_as_core}
use Rattle.run_store.specs.Stands.{lender_in}
use Rattle.run_loops.specs.declared.state.State.{State}
use Rattle.run_eval.specs.declared.trace.Trace.{Trace}
use Rattle.array_ops.specs.Tells.{TellsItems}
use Rattle.run_eval.specs.Outcomes.{AreArrays, TellsCost, TellsTally, draws_under}
use Rattle.run_loops.specs.Running.{IsAt, Told}
use Rattle.run_loops.proofs.Steps.{on_ok}
use Rattle.run_eval.proofs.WholeRuns.{starts, whole_is, outcome_told, cost_told, cut_alike, ended_told, tallied_in, tally_told}
use Rattle.run_eval.proofs.program.run_code.Goals as goal

pub returns-clause-outcome : goal.returns-clause-outcome
returns-clause-outcome g c =
    let code = c.args.code.now in
    let caps = c.args.plan.caps in
    let s : State = record { frames = c.new.result; heap = c.of.result; phases = c.begin_phases-phases.result.0 } in
    let at : IsAt s empty_heap = starts s (c.of.ensures.own ∙ c.replace.ensures.value ∙ c.requires.new) c.of.ensures.lent c.begin_phases-phases.ensures.phases in
    let count : c.len.result ≡ length code.functions.items = omega (arith, c.len.ensures, code.functions.ok.0) in
    let told = subst (λ e. Told AreArrays c.run_main-answer.result c.run_main-answer.new.state e) (whole_is c.of-counted.result code c.args.args.items caps c.len.result c.of-counted.ensures count) (c.run_main-answer.ensures.told empty_heap at) in
    let whole = whole_run (code_program code) c.args.args.items caps in
    ended_told c.run_main-answer.result c.give_back.result _ c.give_back.ensures (λ r. TellsItems r (outcome_of whole)) tt
    (λ holds. outcome_told c.run_main-answer.result c.run_main-answer.new.state whole told)

pub returns-clause-cost : goal.returns-clause-cost
returns-clause-cost g c =
    let code = c.args.code.now in
    let caps = c.args.plan.caps in
    let s : State = record { frames = c.new.result; heap = c.of.result; phases = c.begin_phases-phases.result.0 } in
    let at : IsAt s empty_heap = starts s (c.of.ensures.own ∙ c.replace.ensures.value ∙ c.requires.new) c.of.ensures.lent c.begin_phases-phases.ensures.phases in
    let count : c.len.result ≡ length code.functions.items = omega (arith, c.len.ensures, code.functions.ok.0) in
    let told = subst (λ e. Told AreArrays c.run_main-answer.result c.run_main-answer.new.state e) (whole_is c.of-counted.result code c.args.args.items caps c.len.result c.of-counted.ensures count) (c.run_main-answer.ensures.told empty_heap at) in
    let old = c.args.trace.now in
    let trace : Trace = record { code = old.code; folded = old.folded; scalarised = old.scalarised; taken = c.taken-trace.result; given = c.given-trace.result; reused = c.reused-trace.result; phases = c.number-trace.result; tally = c.give_back.new.tally } in
    let whole = whole_run (code_program code) c.args.args.items caps in
    ended_told c.run_main-answer.result c.give_back.result _ c.give_back.ensures (λ r. TellsCost r trace (cost_of whole)) tt
    (λ holds. cost_told c.run_main-answer.result c.run_main-answer.new.state trace whole told
    (c.run_main-answer.ensures.lender ∙ ap lender_in c.of.ensures.lent)
    (on_ok c.run_main-answer.result (λ full. even_cost whole (ends_as_core (code_program code) c.requires.counted c.requires.marked c.args.args.items full caps).2) c.run_main-answer.ensures.full)
    (c.taken-trace.ensures ∙ ap (λ (h : HeapValue). h.taken) c.clear.ensures.heap)
    (c.given-trace.ensures ∙ c.clear.ensures.balanced ∙ sym c.taken-trace.ensures)
    (c.reused-trace.ensures ∙ ap (λ (h : HeapValue). h.reused) c.clear.ensures.heap)
    c.number-trace.ensures)

pub returns-clause-tally : goal.returns-clause-tally
returns-clause-tally g c =
    let code = c.args.code.now in
    let caps = c.args.plan.caps in
    let s : State = record { frames = c.new.result; heap = c.of.result; phases = c.begin_phases-phases.result.0 } in
    let at : IsAt s empty_heap = starts s (c.of.ensures.own ∙ c.replace.ensures.value ∙ c.requires.new) c.of.ensures.lent c.begin_phases-phases.ensures.phases in
    let count : c.len.result ≡ length code.functions.items = omega (arith, c.len.ensures, code.functions.ok.0) in
    let told = subst (λ e. Told AreArrays c.run_main-answer.result c.run_main-answer.new.state e) (whole_is c.of-counted.result code c.args.args.items caps c.len.result c.of-counted.ensures count) (c.run_main-answer.ensures.told empty_heap at) in
    let whole = whole_run (code_program code) c.args.args.items caps in
    let plan = c.args.plan in
    let old = c.args.trace.now.tally in
    let before = c.begin_phases-phases.ensures.before in
    ended_told c.run_main-answer.result c.give_back.result _ c.give_back.ensures (λ r. TellsTally r old c.give_back.new.tally (cost_of whole) (draws_under plan whole)) tt
    (λ holds.
    let alike = cut_alike c.run_main-answer.new.state.phases c.of-cutting.result.workers c.of-cutting.result.chunk plan.workers plan.chunk holds.1 holds.2 c.of-cutting.ensures in
    tally_told plan.workers plan.chunk old c.give_back.new.tally c.run_main-answer.result c.run_main-answer.new.state whole alike told
    (tallied_in _ _ c.run_main-answer.new.state.phases old c.give_back.new.tally before.0 before.1 holds.0))
