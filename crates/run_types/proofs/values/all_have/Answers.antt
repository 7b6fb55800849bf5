use Rattle.std.proofs.Common.{◌<◌, ◌≤◌, ◌+◌, drop, length, arith, sym, ap, ◌∙◌}
use Rattle.std.proofs.lemmas.List.{drop_all}
use Rattle.counted_code.specs.Values.{read}
use Rattle.run_values.specs.Shown.{value_of}
use Rattle.run_types.specs.Reading.{arrays_in}
use Rattle.run_types.proofs.Lists.{none_have, left_from, have_stops, have_next, have_end}
use Rattle.run_types.proofs.values.all_have.Goals as goal

pub returns-then-types-values : goal.returns-then-types-values
returns-then-types-values c h = none_have h c.args.types.now c.args.values.now c.if-types-values.true

pub returns-then-not-value_has : goal.returns-then-not-value_has
returns-then-not-value_has c h =
    let tys = c.args.types.now in
    let vs = c.args.values.now in
    let k = c.loop-k.k in
    let inside : k < length vs = omega (arith, c.loop-k-test.true, c.if-types-values.false) in
    have_stops (drop k tys) (drop (k + 1) tys) (arrays_in h (drop k vs)) (arrays_in h (drop (k + 1) vs)) c.index-types-k.result (read h (value_of c.index-values-k.result)) (left_from tys k c.index-types-k.result c.loop-k-test.true c.index-types-k.is) (ap (arrays_in h) (left_from vs k c.index-values-k.result inside c.index-values-k.is)) (sym c.if-not-value_has.true ∙ c.value_has.ensures h)
    ∙ c.loop-k.invariant h

pub loop-k-preserved : goal.loop-k-preserved
loop-k-preserved c h =
    let tys = c.args.types.now in
    let vs = c.args.values.now in
    let k = c.loop-k.k in
    let inside : k < length vs = omega (arith, c.loop-k-test.true, c.if-types-values.false) in
    have_next (drop k tys) (drop (k + 1) tys) (arrays_in h (drop k vs)) (arrays_in h (drop (k + 1) vs)) c.index-types-k.result (read h (value_of c.index-values-k.result)) (left_from tys k c.index-types-k.result c.loop-k-test.true c.index-types-k.is) (ap (arrays_in h) (left_from vs k c.index-values-k.result inside c.index-values-k.is)) (sym c.if-not-value_has.false ∙ c.value_has.ensures h)
    ∙ c.loop-k.invariant h

pub returns : goal.returns
returns c h =
    let tys = c.args.types.now in
    let vs = c.args.values.now in
    let k = c.loop-k.k in
    let no_type : length tys ≤ k = omega (arith, c.loop-k-test.false) in
    let no_value : length vs ≤ k = omega (arith, no_type, c.if-types-values.false) in
    have_end (drop k tys) (arrays_in h (drop k vs)) (drop_all k tys no_type) (ap (arrays_in h) (drop_all k vs no_value)) ∙ c.loop-k.invariant h
