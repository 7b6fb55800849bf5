use Rattle.std.proofs.Common.{◌≡◌, ap, ◌∙◌}
use Rattle.std.proofs.lemmas.Result.{IfOk-weaker}
use Rattle.core_ir.specs.declared.tree.Core.{Core}
use Rattle.core_ir.specs.View.{core_term}
use Rattle.core_forms.specs.cleaning.Checks.{simplified_core}
use Rattle.core_forms.specs.cleaning.Copies.{forwarded_core}
use Rattle.core_forms.specs.cleaning.Unused.{swept_core}
use Rattle.const_shape.specs.Cleaned.{cleaned}
use Rattle.const_shape.proofs.functions.clean.Goals as goal

pub returns : goal.returns
returns c =
    let old = core_term c.args.core in
    let before : core_term c.in_ok-swept.swept ≡ swept_core (forwarded_core (simplified_core old)) =
    c.in_ok-swept.ensures.term ∙ ap swept_core (c.in_ok-forwarded.ensures.term ∙ ap forwarded_core c.in_ok-settled.ensures) in
    IfOk-weaker c.settle_functions-2.result (λ (new : Core). core_term new ≡ simplified_core (core_term c.in_ok-swept.swept)) (λ (new : Core). core_term new ≡ cleaned old)
    (λ new p. p ∙ ap simplified_core before) c.settle_functions-2.ensures
