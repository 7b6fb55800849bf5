use Rattle.std.proofs.Common.{ap, ◌∙◌, map}
use Rattle.core_ir.specs.View.{core_term}
use Rattle.const_shape.specs.Settling.{settled_by}
use Rattle.const_shape.proofs.functions.settle_functions.Goals as goal

pub returns : goal.returns
returns c =
    let old = core_term c.args.core in
    λ i. record old { functions = (c.in_ok-functions.ensures ∙ ap (λ called. map (settled_by called) old.functions) c.in_ok-called.ensures) i }
