use Rattle.std.proofs.Common.{◌≡◌, ◌<◌, ◌≤◌, ap, sym, ◌∙◌, subst, arith, length, get_or, true, false}
use Rattle.std.specs.Prelude.{bytes_eq, slice_set}
use Rattle.source_meaning.specs.declared.environment.Binding.{Binding}
use Rattle.source_meaning.specs.Environments.{env_of_bindings}
use Rattle.sac_base.specs.Outcomes.{with_variable}
use Rattle.source_meaning.proofs.Environments.{set_found, bound_last, same_env, same_item}
use Rattle.source_meaning.proofs.environment.assign_in.Goals as goal

pub returns-then-same_name : goal.returns-then-same_name
returns-then-same_name c =
    let items = c.loop-i.bindings.items in
    let name = c.args.name.now in
    let within : c.loop-i.i < length items = omega (arith, c.len-i-end.ensures, c.args.bindings.now.ok.0, ap length c.loop-i.invariant.kept, c.loop-i-test.true) in
    let item = c.index.ensures ∙ same_item items c.loop-i.i c.index.result.now c.index_mut.result.now within in
    let here = subst (λ (b : Binding). bytes_eq b.name name ≡ true) item (sym c.same_name.ensures ∙ c.if-same_name.true) in
    ap (λ (b : Binding). env_of_bindings (slice_set items c.loop-i.i (record { name = b.name; value = c.args.value }))) c.index_mut.ensures.value
    ∙ same_env _ _ (λ other. set_found items c.loop-i.i c.index_mut.result.now name c.args.value other within here c.loop-i.invariant.before)
    ∙ ap (λ bs. with_variable name c.args.value (env_of_bindings bs)) c.loop-i.invariant.kept

pub returns : goal.returns
returns c =
    let items = c.loop-i.bindings.items in
    let name = c.args.name.now in
    let past : length items ≤ c.loop-i.i = omega (arith, c.len-i-end.ensures, c.args.bindings.now.ok.0, ap length c.loop-i.invariant.kept, c.loop-i-test.false) in
    ap env_of_bindings c.in_ok-push.ensures.items
    ∙ same_env _ _ (λ other. bound_last items (record { name = c.in_ok-name.name; value = c.args.value }) other
    (λ k d h. subst (λ n. bytes_eq (get_or items k d).name n ≡ false) (sym c.in_ok-name.ensures) (c.loop-i.invariant.before k d (omega (arith, h, past)))))
    ∙ ap (λ n. with_variable n c.args.value (env_of_bindings items)) c.in_ok-name.ensures
    ∙ ap (λ bs. with_variable name c.args.value (env_of_bindings bs)) c.loop-i.invariant.kept
