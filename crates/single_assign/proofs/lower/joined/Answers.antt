use Rattle.std.proofs.Common.{ap, ◌∙◌}
use Rattle.core_ir.specs.Terms.{RightTerm}
use Rattle.core_lowering.specs.steps.Building.{block_giving, bound_in_both}
use Rattle.core_scopes.specs.Looks.{look, texts}
use Rattle.core_scopes.specs.Built.{built}
use Rattle.single_assign.specs.Views.{made_branch}
use Rattle.single_assign.proofs.lower.joined.Goals as goal

pub returns : goal.returns
returns c =
    let a = c.args in
    let b = made_branch a.first.value in
    let d = made_branch a.second.value in
    let s = built a.out.now in
    let both = c.in_ok-names.ensures
    ∙ (λ j. bound_in_both (look (c.deref-2.ensures j).scope) (look (c.deref-3.ensures j).scope) (texts (c.deref.ensures.value j)))
    ∙ ap (bound_in_both b.scope d.scope) c.in_ok-bound.ensures in
    let p = c.in_ok-yes.ensures ∙ (λ j. block_giving (texts (c.deref-4.ensures.value j)) s b) ∙ (λ j. block_giving (both j) s b) in
    let q = c.in_ok-no.ensures ∙ (λ j. block_giving (texts (c.deref-5.ensures.value j)) (built c.close_branch.new.out) d) ∙ (λ j. block_giving (both j) (p j).state d) in
    λ j. record { state = (q j).state; names = both j; right = RightTerm.If a.cond (p j).block (q j).block }
