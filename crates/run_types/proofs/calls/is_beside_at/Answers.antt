use Rattle.std.proofs.Common.{◌<◌, length, get_or, arith, sym, ap, ◌∙◌}
use Rattle.sac_base.specs.Types.{all_have, all_below}
use Rattle.run_types.specs.Choosing.{types_of}
use Rattle.run_types.specs.Reading.{arrays_in}
use Rattle.run_types.proofs.Choices.{beside_of, beside_unfit, beside_fit}
use Rattle.run_types.proofs.calls.is_beside_at.Goals as goal

pub returns-then-not-all_fit : goal.returns-then-not-all_fit
returns-then-not-all_fit c h =
    let fs = c.args.functions.now in
    let f = get_or fs c.args.place c.index-functions-place.result in
    let types = types_of c.args.params.now in
    let others = types_of f.params.items in
    let args = arrays_in h c.args.args.now in
    let inside : c.args.place < length fs = omega (arith, c.if-place-functions.false) in
    beside_unfit c.all_fit.result (all_have others args) (all_below types others) c.if-not-all_fit.true (c.all_fit.ensures h ∙ ap (λ ps. all_have (types_of ps) args) c.deref.ensures.value)
    ∙ sym (beside_of fs c.args.place c.index-functions-place.result inside types args)

pub returns-else-not-all_fit : goal.returns-else-not-all_fit
returns-else-not-all_fit c h =
    let fs = c.args.functions.now in
    let f = get_or fs c.args.place c.index-functions-place.result in
    let types = types_of c.args.params.now in
    let others = types_of f.params.items in
    let args = arrays_in h c.args.args.now in
    let inside : c.args.place < length fs = omega (arith, c.if-place-functions.false) in
    c.all_below.ensures ∙ ap (λ ps. all_below types (types_of ps)) c.deref-else-not-all_fit.ensures.value
    ∙ beside_fit c.all_fit.result (all_have others args) (all_below types others) c.if-not-all_fit.false (c.all_fit.ensures h ∙ ap (λ ps. all_have (types_of ps) args) c.deref.ensures.value)
    ∙ sym (beside_of fs c.args.place c.index-functions-place.result inside types args)
