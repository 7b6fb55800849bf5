use Rattle.std.proofs.Common.{◌<◌, length, arith, sym, ap, ◌∙◌}
use Rattle.std.specs.Prelude.{◌&&◌}
use Rattle.std.specs.List.{list_all}
use Rattle.sac_base.specs.Types.{all_have}
use Rattle.core_ir.specs.Outcome.{Instance, instances}
use Rattle.run_types.specs.Choosing.{functions_of, types_of, is_beside}
use Rattle.run_types.specs.Reading.{arrays_in}
use Rattle.run_types.proofs.Choices.{least_of}
use Rattle.run_types.proofs.calls.is_least_at.Goals as goal

pub returns-clause-told : goal.returns-clause-told
returns-clause-told c h =
    let fs = c.args.functions.now in
    let args = arrays_in h c.args.args.now in
    let all = instances (functions_of fs) c.args.places.now in
    let inside : c.args.place < length fs = omega (arith, c.if-place-functions.false) in
    c.is_least.ensures h
    ∙ ap (λ ps. all_have (types_of ps) args && list_all (λ (j : Instance). is_beside (types_of ps) args j.types) all) c.deref.ensures.value
    ∙ sym (least_of fs c.args.place c.index-functions-place.result inside all args)
