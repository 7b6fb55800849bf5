use Rattle.std.proofs.Common.{◌≡◌, ◌≤◌, length, arith, true, ap, sym, ◌∙◌}
use Rattle.std.specs.Prelude.{◌&&◌}
use Rattle.std.specs.List.{list_all}
use Rattle.sac_base.specs.Types.{all_have}
use Rattle.core_ir.specs.Outcome.{Instance, instances}
use Rattle.run_types.specs.Choosing.{functions_of, types_of, is_beside}
use Rattle.run_types.specs.Reading.{arrays_in}
use Rattle.run_types.proofs.Choices.{beside_stops, beside_next, beside_end}
use Rattle.run_types.proofs.calls.is_least.Goals as goal

pub returns-then-not-is_beside_at : goal.returns-then-not-is_beside_at
returns-then-not-is_beside_at c h =
    let fs = functions_of c.args.functions.now in
    let types = types_of c.args.params.now in
    let args = arrays_in h c.args.args.now in
    let others = list_all (λ (j : Instance). is_beside types args j.types) (instances fs c.args.places.now) in
    let none = sym (c.loop-place.invariant h) ∙ beside_stops fs c.args.places.now c.loop-place.place-index c.loop-place-test.true types args (sym c.if-not-is_beside_at.true ∙ c.is_beside_at.ensures h) in
    let fits : true ≡ all_have types args = sym c.if-not-all_fit.false ∙ c.all_fit.ensures h in
    sym (ap (λ b. b && others) (sym fits) ∙ none)

pub loop-place-preserved : goal.loop-place-preserved
loop-place-preserved c h =
    beside_next (functions_of c.args.functions.now) c.args.places.now c.loop-place.place-index c.loop-place-test.true (types_of c.args.params.now) (arrays_in h c.args.args.now) (sym c.if-not-is_beside_at.false ∙ c.is_beside_at.ensures h)
    ∙ c.loop-place.invariant h

pub returns-then-not-all_fit : goal.returns-then-not-all_fit
returns-then-not-all_fit c h =
    let types = types_of c.args.params.now in
    let args = arrays_in h c.args.args.now in
    ap (λ b. b && list_all (λ (j : Instance). is_beside types args j.types) (instances (functions_of c.args.functions.now) c.args.places.now)) (sym c.if-not-all_fit.true ∙ c.all_fit.ensures h)

pub returns : goal.returns
returns c h =
    let fs = functions_of c.args.functions.now in
    let ps = c.args.places.now in
    let types = types_of c.args.params.now in
    let args = arrays_in h c.args.args.now in
    let past : length ps ≤ c.loop-place.place-index = omega (arith, c.loop-place-test.false) in
    beside_end fs ps c.loop-place.place-index past types args ∙ c.loop-place.invariant h
    ∙ ap (λ b. b && list_all (λ (j : Instance). is_beside types args j.types) (instances fs ps)) (sym c.if-not-all_fit.false ∙ c.all_fit.ensures h)
