use Rattle.std.proofs.Common.{rules, ◌≡◌, ◌<◌, ◌∙◌, length, get_or, map, true, false, sym, ap, subst}
use Rattle.std.specs.Prelude.{Ok, Err}
use Rattle.counted_code.specs.Outcome.{function_does, copied_out}
use Rattle.counted_code.specs.View.{code_fun_term}
use Rattle.run_values.specs.Shown.{value_of}
use Rattle.run_loops.specs.declared.state.State.{State}
use Rattle.run_eval.specs.Outcomes.{main_in, AreArrays}
use Rattle.run_loops.specs.Running.{calls_in, IsAt, Told, ToldStop, Appends}
use Rattle.run_loops.proofs.Steps.{always_on_ok}
use Rattle.run_eval.proofs.WholeRuns.{placing, function_at, main_same, main_within, fits_as, misfit, fitting, then_copied, then_stops}
use Rattle.run_eval.proofs.program.run_main.Goals as goal
use Rattle.phase_count.proofs.Tallying.{counts_on}

pub returns-then-not-all_fit-clause-told : goal.returns-then-not-all_fit-clause-told
returns-then-not-all_fit-clause-told g c m at =
    let context = c.args.context.now in
    let fs = context.code.now.functions.items in
    let n = context.code.now.main in
    let main = c.in-Some.main.now in
    let code = c.get-code.result.now in
    let same = c.get-code.ensures.same in
    let inside : n < length fs = main_within code context.code.now same (subst (λ xs. code.main < length xs) c.deref.ensures.value c.in-Some.ensures.lookup.3.0) in
    let is : main ≡ get_or fs n main = main_same code context.code.now main same (c.in-Some.ensures.lookup.1 ∙ ap (λ xs. get_or xs code.main main) c.deref.ensures.value) in
    let here = function_at fs n main inside is in
    let vs = c.in_ok-placed.placed.items in
    let p = placing c.args.args.items vs c.place_all.new.heap m (c.in_ok-placed.ensures.placed m at.heap) in
    let s : State = record { frames = c.args.state.now.frames; heap = c.place_all.new.heap; phases = c.args.state.now.phases } in
    let fits = fits_as main c.deref-2.result.now vs c.deref-3.result.now c.args.args.items p.after c.all_fit.result false c.deref-2.ensures.value c.deref-3.ensures.value p.reads (c.all_fit.ensures p.after) c.if-not-all_fit.true in
    subst (λ x. ToldStop x s (main_in context c.args.args.items m)) (sym c.fault-then-not-all_fit.ensures)
    (misfit context c.args.args.items m (code_fun_term main) here s fits at.phases)

pub returns-in_err-run_function-clause-told : goal.returns-in_err-run_function-clause-told
returns-in_err-run_function-clause-told g c m at =
    let context = c.args.context.now in
    let fs = context.code.now.functions.items in
    let n = context.code.now.main in
    let main = c.in-Some.main.now in
    let code = c.get-code.result.now in
    let same = c.get-code.ensures.same in
    let inside : n < length fs = main_within code context.code.now same (subst (λ xs. code.main < length xs) c.deref.ensures.value c.in-Some.ensures.lookup.3.0) in
    let is : main ≡ get_or fs n main = main_same code context.code.now main same (c.in-Some.ensures.lookup.1 ∙ ap (λ xs. get_or xs code.main main) c.deref.ensures.value) in
    let here = function_at fs n main inside is in
    let vs = c.in_ok-placed.placed.items in
    let p = placing c.args.args.items vs c.place_all.new.heap m (c.in_ok-placed.ensures.placed m at.heap) in
    let s : State = record { frames = c.args.state.now.frames; heap = c.place_all.new.heap; phases = c.args.state.now.phases } in
    let fits = fits_as main c.deref-2.result.now vs c.deref-3.result.now c.args.args.items p.after c.all_fit.result true c.deref-2.ensures.value c.deref-3.ensures.value p.reads (c.all_fit.ensures p.after) c.if-not-all_fit.false in
    let at_after : IsAt s p.after = record { heap = p.stands; phases = counts_on c.args.state.now.phases m.phases p.after.phases (sym p.phases) at.phases } in
    let t = c.run_function.new.state in
    let stop = c.in_err-run_function.field-0.0 in
    let result : c.from_residual-in_err-run_function.result ≡ Err stop = search rules in
    let told : ToldStop stop t (function_does context.turns (calls_in context) (code_fun_term main) (map value_of vs) p.after) =
    subst (λ us. ToldStop stop t (function_does context.turns (calls_in context) (code_fun_term main) (map value_of us) p.after)) c.deref-4.ensures.value (c.in_err-run_function.ensures.told p.after at_after) in
    subst (λ r. Told AreArrays r t (main_in context c.args.args.items m)) (sym result)
    (fitting context c.args.args.items m (code_fun_term main) here vs c.place_all.new.heap (Err stop) t fits p
    (then_stops stop t (function_does context.turns (calls_in context) (code_fun_term main) (map value_of vs) p.after) told))

pub returns-clause-told : goal.returns-clause-told
returns-clause-told g c m at =
    let context = c.args.context.now in
    let fs = context.code.now.functions.items in
    let n = context.code.now.main in
    let main = c.in-Some.main.now in
    let code = c.get-code.result.now in
    let same = c.get-code.ensures.same in
    let inside : n < length fs = main_within code context.code.now same (subst (λ xs. code.main < length xs) c.deref.ensures.value c.in-Some.ensures.lookup.3.0) in
    let is : main ≡ get_or fs n main = main_same code context.code.now main same (c.in-Some.ensures.lookup.1 ∙ ap (λ xs. get_or xs code.main main) c.deref.ensures.value) in
    let here = function_at fs n main inside is in
    let vs = c.in_ok-placed.placed.items in
    let p = placing c.args.args.items vs c.place_all.new.heap m (c.in_ok-placed.ensures.placed m at.heap) in
    let s : State = record { frames = c.args.state.now.frames; heap = c.place_all.new.heap; phases = c.args.state.now.phases } in
    let fits = fits_as main c.deref-2.result.now vs c.deref-3.result.now c.args.args.items p.after c.all_fit.result true c.deref-2.ensures.value c.deref-3.ensures.value p.reads (c.all_fit.ensures p.after) c.if-not-all_fit.false in
    let at_after : IsAt s p.after = record { heap = p.stands; phases = counts_on c.args.state.now.phases m.phases p.after.phases (sym p.phases) at.phases } in
    let t = c.run_function.new.state in
    let old = c.new-values.result.items in
    let values = c.run_function.new.values.items in
    let unit = c.in_ok-run_function.field-0 in
    let told : Told {A = Unit {0}} (λ x ws. Appends old values ws) (Ok unit) t (function_does context.turns (calls_in context) (code_fun_term main) (map value_of vs) p.after) =
    subst (λ us. Told {A = Unit {0}} (λ x ws. Appends old values ws) (Ok unit) t (function_does context.turns (calls_in context) (code_fun_term main) (map value_of us) p.after)) c.deref-4.ensures.value (c.in_ok-run_function.ensures.told p.after at_after) in
    fitting context c.args.args.items m (code_fun_term main) here vs c.place_all.new.heap c.copy_out.result c.copy_out.new.state fits p
    (then_copied unit values old t c.copy_out.new.state c.copy_out.result (function_does context.turns (calls_in context) (code_fun_term main) (map value_of vs) p.after) c.new-values.ensures.items told
    (λ k at_k. subst (λ us. Told AreArrays c.copy_out.result c.copy_out.new.state (copied_out (map value_of us) k)) c.deref-5.ensures.value (c.copy_out.ensures.told k at_k)))

pub returns-clause-full : goal.returns-clause-full
returns-clause-full g c = always_on_ok c.copy_out.result c.in_ok-placed.ensures.full
