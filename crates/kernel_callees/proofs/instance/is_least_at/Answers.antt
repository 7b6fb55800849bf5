use Rattle.std.proofs.Common.{sym, ap, ◌∙◌}
use Rattle.core_ir.specs.Outcome.{instances}
use Rattle.std.specs.Prelude.{slice_get}
use Rattle.kernel_callees.specs.Choosing.{are_least, functions_of, least_at, types_of}
use Rattle.kernel_callees.proofs.Choices.{least_of}
use Rattle.kernel_callees.proofs.Fitting.{decides_same}
use Rattle.kernel_callees.proofs.instance.is_least_at.Goals as goal

pub returns-clause-told : goal.returns-clause-told
returns-clause-told c =
    let fs = c.args.functions.now in
    let place = c.args.place in
    let all = instances (functions_of fs) c.args.places.now in
    decides_same c.is_least.result c.args.args.now (are_least all (types_of c.deref.result.now)) (least_at all place (slice_get (functions_of fs) place))
    (λ vs. least_of fs place c.index-functions-place.result c.if-place-functions.false all vs ∙ ap (λ ps. are_least all (types_of ps) vs) (sym c.deref.ensures.value)) c.is_least.ensures
