use Rattle.std.proofs.Common.{◌∙◌, ap, length}
use Rattle.std.proofs.lemmas.List.FromFn.{length-map-range_with_len}
use Rattle.data_text.specs.Generated.{generated_element, generated_number}
use Rattle.data_text.proofs.fill.generated_array.Goals as goal

pub new-requires-clause-full : goal.new-requires-clause-full
new-requires-clause-full c =
    ap length c.in_ok-cells.ensures
    ∙ length-map-range_with_len (λ k. generated_element c.args.ty.now.base (generated_number c.args.parameter k)) 0 c.in-Some-elements.count
    ∙ c.in-Some-elements.ensures.1
