-- The answers of loops that are run as kernels.
use Rattle.std.proofs.Common.{rules, ◌≡◌, ◌++◌, List, Some, Ok, Err, ap, subst, sym, ◌∙◌}
use Rattle.counted_code.specs.Values.{Value}
use Rattle.counted_code.specs.View.{code_right_term}
use Rattle.run_loops.specs.Running.{Appends, Told, right_in}
use Rattle.run_values.specs.declared.value.RunValue.{RunValue}
use Rattle.run_values.specs.Scopes.{current}
use Rattle.run_eval.proofs.KernelLoops.{found_told, in_context, stop_told}
use Rattle.run_eval.proofs.+run.Goals as goal

pub run_rights-returns-in_err-found-in-Loop-clause-told : goal.blocks::run_rights-returns-in_err-found-in-Loop-clause-told
run_rights-returns-in_err-found-in-Loop-clause-told g t c m at =
    let a = c.args in
    let stop = c.in_err-found-in-Loop.field-0.0 in
    let is : c.from_residual-in_err-found-in-Loop.result ≡ Err stop = search rules in
    let r = code_right_term a.right.now in
    let e = current a.state.now.frames in
    let old = a.values.now.items in
    let told = in_context c.levels_of-levels.result a.context.now (Err stop) r a.site e m c.levels_of-levels.ensures.calls c.levels_of-levels.ensures.turns (c.in_err-found-in-Loop.ensures m at.heap) in
    subst (λ result. Told {A = Unit {0}} {B = List Value} (λ x ws. Appends old old ws) result a.state.now (right_in a.context.now r a.site e m)) (sym is)
    (stop_told (λ x ws. Appends old old ws) stop a.state.now m (right_in a.context.now r a.site e m) at told)

pub run_rights-returns-in-Some-clause-told : goal.blocks::run_rights-returns-in-Some-clause-told
run_rights-returns-in-Some-clause-told g t c m at =
    let a = c.args in
    let r = code_right_term a.right.now in
    let e = current a.state.now.frames in
    let old = a.values.now.items in
    let told = in_context c.levels_of-levels.result a.context.now (Ok (Some c.in-Some.found)) r a.site e m c.levels_of-levels.ensures.calls c.levels_of-levels.ensures.turns ((rw c.in-Some.is at c.in_ok-found-in-Loop.ensures) m at.heap) in
    found_told old c.extend_from_slice.new.self.items c.in-Some.found a.state.now m (right_in a.context.now r a.site e m) at told
    (c.in_ok-extend_from_slice-in-Loop.ensures.items ∙ ap (λ (xs : List RunValue). old ++ xs) c.deref.ensures.value)
