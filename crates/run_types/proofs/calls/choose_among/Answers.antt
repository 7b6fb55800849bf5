use Rattle.std.proofs.Common.{◌≤◌, length, arith, sym, ◌∙◌}
use Rattle.core_ir.specs.Outcome.{instances}
use Rattle.run_types.specs.Choosing.{functions_of}
use Rattle.run_types.specs.Reading.{arrays_in}
use Rattle.run_types.proofs.Choices.{least_here, least_next, least_end}
use Rattle.run_types.proofs.calls.choose_among.Goals as goal

pub returns-then-is_least_at-clause-told : goal.returns-then-is_least_at-clause-told
returns-then-is_least_at-clause-told c h =
    let fs = functions_of c.args.functions.now in
    least_here fs c.args.places.now c.loop-place.place-index c.loop-place-test.true (instances fs c.args.places.now) (arrays_in h c.args.args.now) (sym c.if-is_least_at.true ∙ c.is_least_at.ensures.told h)
    ∙ c.loop-place.invariant h

pub loop-place-preserved : goal.loop-place-preserved
loop-place-preserved c h =
    let fs = functions_of c.args.functions.now in
    least_next fs c.args.places.now c.loop-place.place-index c.loop-place-test.true (instances fs c.args.places.now) (arrays_in h c.args.args.now) (sym c.if-is_least_at.false ∙ c.is_least_at.ensures.told h)
    ∙ c.loop-place.invariant h

pub returns-clause-told : goal.returns-clause-told
returns-clause-told c h =
    let fs = functions_of c.args.functions.now in
    let ps = c.args.places.now in
    let past : length ps ≤ c.loop-place.place-index = omega (arith, c.loop-place-test.false) in
    least_end fs ps c.loop-place.place-index past (instances fs ps) (arrays_in h c.args.args.now) ∙ c.loop-place.invariant h
