use Rattle.std.proofs.Common.{ap, ◌∙◌, map}
use Rattle.std.specs.List.{sum}
use Rattle.core_ir.specs.View.{core_term}
use Rattle.vector_selections.specs.Vectored.{vectored_function, vectors_in}
use Rattle.vector_selections.proofs.functions.in_core.Goals as goal

pub returns-clause-term : goal.returns-clause-term
returns-clause-term c =
    let old = core_term c.args.core in
    λ i. record old { functions = (c.in_ok-functions.ensures.term ∙ ap (λ called. map (vectored_function called) old.functions) c.in_ok-called.ensures) i }

pub returns-clause-count : goal.returns-clause-count
returns-clause-count c =
    let old = core_term c.args.core in
    c.in_ok-functions.ensures.count ∙ ap (λ called. sum (map (vectors_in called) old.functions)) c.in_ok-called.ensures
