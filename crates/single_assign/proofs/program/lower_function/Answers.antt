use Rattle.std.proofs.Common.{◌∙◌}
use Rattle.core_ir.specs.View.{block_term}
use Rattle.single_assign.proofs.program.lower_function.Goals as goal

pub returns : goal.returns
returns c =
    let f = c.args.f.now in
    let parts = c.in_ok-parts.parts in
    let results = c.in_ok-results.ensures ∙ c.deref.ensures.value in
    (λ j. record { name = c.in_ok-name.ensures j; site = f.site; params = parts.params.items; results = results j; is_inline = f.inline; body = block_term parts.body; ends = f.ends })
    ∙ c.in_ok-parts.ensures
