use Rattle.std.proofs.Common.{◌∙◌}
use Rattle.core_ir.specs.Terms.{Gives, chain}
use Rattle.core_lowering.specs.steps.Looks.{vars_of}
use Rattle.core_lowering.specs.steps.Building.{resumed}
use Rattle.core_scopes.specs.Looks.{look, texts}
use Rattle.core_scopes.specs.Built.{built}
use Rattle.single_assign.proofs.lower.close_branch.Goals as goal

pub returns : goal.returns
returns c =
    let xs = texts c.args.names.now in
    let s = built c.args.out.now in
    let own = c.into_inner-bindings.ensures in
    let values = c.in_ok-results.ensures ∙ (λ j. vars_of (look (c.deref.ensures j).scope) xs) in
    let state = c.resume.ensures ∙ (λ j. resumed s (built (own j).bindings)) in
    let block = c.finish.ensures ∙ (λ j. chain (built (own j).bindings).lets (Gives (values j))) in
    λ j. record { state = state j; block = block j }
