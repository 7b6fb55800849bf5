use Rattle.std.proofs.Common.{◌++◌, ◌∙◌, ap, map}
use Rattle.sac_base.specs.declared.types.ArrayType.{ArrayType}
use Rattle.core_ir.specs.declared.tree.Var.{Var}
use Rattle.core_ir.specs.View.{block_term, fun_term, let_term}
use Rattle.core_subst.specs.copy.Mapped.{raised_within}
use Rattle.core_forms.specs.inlining.Inlined.{checks}
use Rattle.inline_calls.proofs.Steps.{placed}
use Rattle.inline_calls.proofs.place.inlined_bindings.Goals as goal

pub returns : goal.returns
returns c =
    let f = fun_term c.args.function.now in
    let ts = c.args.targets.now in
    let xs = c.args.args.now in
    let first = map let_term c.new-lets.result.items in
    let second = map let_term c.push_checks.new.lets.items in
    let third = map let_term c.push_body.new.lets.items in
    let fourth = map let_term c.push_checks-2.new.lets.items in
    let params = c.in_ok-params.ensures ∙ (λ i. map (λ (p : Var × ArrayType). raised_within c.args.by p.0) (c.deref.ensures.value i)) in
    let types = c.in_ok-types.ensures ∙ (λ i. map (λ (p : Var × ArrayType). p.1) (c.deref-2.ensures.value i)) in
    let checked = c.in_ok-push_checks.ensures ∙ (λ i. first ++ checks c.args.site (c.deref-3.ensures.value i) (c.deref-4.ensures.value i) xs) in
    let given = c.in_ok-push_checks-2.ensures ∙ (λ i. third ++ checks f.ends ts (c.deref-5.ensures.value i) (c.deref-6.ensures.value i)) in
    placed c.args.by f ts xs c.args.site c.in_ok-params.params.items c.in_ok-types.types.items (block_term c.in_ok-body.body) c.in_ok-results.results.items
    first second third fourth c.requires params types c.in_ok-body.ensures.term c.in_ok-results.ensures.results (ap (map let_term) c.new-lets.ensures.items) checked c.in_ok-results.ensures.lets given
