use Rattle.std.proofs.Common.{◌<◌, ◌≤◌, ◌+◌, drop, get_or, length, arith, sym, ap, ◌∙◌}
use Rattle.std.proofs.lemmas.List.{drop_all, drop_more, length-map}
use Rattle.sac_base.specs.declared.types.ArrayType.{ArrayType}
use Rattle.core_ir.specs.declared.tree.Var.{Var}
use Rattle.counted_code.specs.Values.{read}
use Rattle.run_values.specs.Shown.{value_of}
use Rattle.run_types.specs.Choosing.{types_of}
use Rattle.run_types.specs.Reading.{arrays_in}
use Rattle.run_types.proofs.Lists.{none_have, left_from, have_stops, have_next, have_end}
use Rattle.run_types.proofs.calls.all_fit.Goals as goal

pub returns-then-params-args : goal.returns-then-params-args
returns-then-params-args c h = none_have h (types_of c.args.params.now) c.args.args.now (λ e. c.if-params-args.true (sym (length-map c.args.params.now (λ (p : Var × ArrayType). p.1)) ∙ e))

pub returns-then-not-value_has : goal.returns-then-not-value_has
returns-then-not-value_has c h =
    let ps = c.args.params.now in
    let vs = c.args.args.now in
    let k = c.loop-k.k in
    let inside : k < length vs = omega (arith, c.loop-k-test.true, c.if-params-args.false) in
    have_stops (types_of (drop k ps)) (types_of (drop (k + 1) ps)) (arrays_in h (drop k vs)) (arrays_in h (drop (k + 1) vs)) (get_or ps k c.index-params-k.result).1 (read h (value_of c.index-args-k.result)) (ap types_of (drop_more ps k c.index-params-k.result c.loop-k-test.true)) (ap (arrays_in h) (left_from vs k c.index-args-k.result inside c.index-args-k.is)) (sym c.if-not-value_has.true ∙ c.value_has.ensures h)
    ∙ c.loop-k.invariant h

pub loop-k-preserved : goal.loop-k-preserved
loop-k-preserved c h =
    let ps = c.args.params.now in
    let vs = c.args.args.now in
    let k = c.loop-k.k in
    let inside : k < length vs = omega (arith, c.loop-k-test.true, c.if-params-args.false) in
    have_next (types_of (drop k ps)) (types_of (drop (k + 1) ps)) (arrays_in h (drop k vs)) (arrays_in h (drop (k + 1) vs)) (get_or ps k c.index-params-k.result).1 (read h (value_of c.index-args-k.result)) (ap types_of (drop_more ps k c.index-params-k.result c.loop-k-test.true)) (ap (arrays_in h) (left_from vs k c.index-args-k.result inside c.index-args-k.is)) (sym c.if-not-value_has.false ∙ c.value_has.ensures h)
    ∙ c.loop-k.invariant h

pub returns : goal.returns
returns c h =
    let ps = c.args.params.now in
    let vs = c.args.args.now in
    let k = c.loop-k.k in
    let no_type : length ps ≤ k = omega (arith, c.loop-k-test.false) in
    let no_value : length vs ≤ k = omega (arith, no_type, c.if-params-args.false) in
    have_end (types_of (drop k ps)) (arrays_in h (drop k vs)) (ap types_of (drop_all k ps no_type)) (ap (arrays_in h) (drop_all k vs no_value)) ∙ c.loop-k.invariant h
