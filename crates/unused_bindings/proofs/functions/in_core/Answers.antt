use Rattle.std.proofs.Common.{ap, ◌∙◌, map}
use Rattle.core_ir.specs.View.{core_term}
use Rattle.unused_bindings.specs.Swept.{swept_function}
use Rattle.unused_bindings.proofs.functions.in_core.Goals as goal

pub returns : goal.returns
returns c =
    let old = core_term c.args.core in
    λ i. record old { functions = (c.in_ok-functions.ensures ∙ ap (λ called. map (swept_function called) old.functions) c.in_ok-called.ensures) i }
