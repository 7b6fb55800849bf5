use Rattle.std.proofs.Common.{◌≡◌, ap, ◌∙◌, List, map}
use Rattle.sac_base.specs.declared.types.ArrayType.{ArrayType}
use Rattle.core_ir.specs.declared.tree.Var.{Var}
use Rattle.core_ir.specs.View.{fun_term}
use Rattle.core_subst.specs.copy.Mapped.{mapped}
use Rattle.core_subst.specs.Names.{above_all}
use Rattle.parted_bodies.specs.Numbering.{named_in, numbered}
use Rattle.dense_variables.specs.Dense.{behind_params, number_in}
use Rattle.dense_variables.proofs.pass.in_function.Goals as goal

pub returns : goal.returns
returns c =
    let f = fun_term c.args.function in
    let start : named_in c.new-names.result ≡ (λ (x : Var). x) = λ i x. c.new-names.ensures x i in
    let number : c.above_params.result ≡ behind_params f = c.above_params.ensures ∙ ap (λ (ps : List (Var × ArrayType)). above_all (map (λ (p : Var × ArrayType). p.0) ps)) c.deref.ensures.value in
    let names : named_in c.set_all.new.self ≡ number_in f =
    (λ i z. c.in_ok-set_all.ensures.named z i)
    ∙ (λ i. numbered (start i) (c.deref-2.ensures.value i) c.above_params.result) ∙ (λ i. numbered (λ x. x) (c.in_ok-bound.ensures i) (number i)) in
    λ i. record f { body = (c.in_ok-body.ensures ∙ ap (λ (m : Var → Var). mapped m f.body) names) i }
