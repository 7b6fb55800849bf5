-- The answers of calls that are run as kernels.
use Rattle.std.proofs.Common.{rules, ◌≡◌, ◌++◌, List, map, Some, Ok, Err, ap, subst, sym, arith, ◌∙◌}
use Rattle.counted_code.specs.Machine.{DoesCalls}
use Rattle.counted_code.specs.Values.{Value}
use Rattle.run_kernels.specs.Loops.{TellsLoop}
use Rattle.run_loops.specs.Running.{Appends, Told, calls_in}
use Rattle.run_values.specs.declared.value.RunValue.{RunValue}
use Rattle.run_values.specs.Shown.{value_of}
use Rattle.run_eval.proofs.KernelLoops.{found_told, stop_told}
use Rattle.run_eval.proofs.+run.Goals as goal

pub run_call-run_chosen-requires : goal.blocks::run_call-run_chosen-requires
run_call-run_chosen-requires g t c κs p = (omega (arith, c.decreases), p)

pub run_call-returns-in_err-found-clause-told : goal.blocks::run_call-returns-in_err-found-clause-told
run_call-returns-in_err-found-clause-told g t c m at =
    let a = c.args in
    let stop = c.in_err-found.field-0.0 in
    let is : c.from_residual.result ≡ Err stop = search rules in
    let vs = map value_of a.args.now in
    let old = a.values.now.items in
    let told = subst (λ (d : DoesCalls). TellsLoop (Err stop) m (d a.group vs a.site m)) c.levels_of-levels.ensures.calls (c.in_err-found.ensures m a.site) in
    subst (λ result. Told {A = Unit {0}} {B = List Value} (λ x ws. Appends old old ws) result a.state.now (calls_in a.context.now a.group vs a.site m)) (sym is)
    (stop_told (λ x ws. Appends old old ws) stop a.state.now m (calls_in a.context.now a.group vs a.site m) at told)

pub run_call-returns-in-Some-clause-told : goal.blocks::run_call-returns-in-Some-clause-told
run_call-returns-in-Some-clause-told g t c m at =
    let a = c.args in
    let vs = map value_of a.args.now in
    let old = a.values.now.items in
    let found = c.in-Some.found in
    let told = subst (λ (d : DoesCalls). TellsLoop (Ok (Some found)) m (d a.group vs a.site m)) c.levels_of-levels.ensures.calls ((rw c.in-Some.is at c.in_ok-found.ensures) m a.site) in
    found_told old c.extend_from_slice.new.self.items found a.state.now m (calls_in a.context.now a.group vs a.site m) at told
    (c.in_ok-extend_from_slice.ensures.items ∙ ap (λ (xs : List RunValue). old ++ xs) c.deref.ensures.value)
