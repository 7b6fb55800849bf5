use Rattle.std.proofs.Common.{ap, ◌∙◌, ◌++◌, ◌∷◌, [], map, pos, take_all, arith, rules, FitsSigned, w32}
use Rattle.std.proofs.lemmas.Int.{to_z-of_z}
use Rattle.core_ir.specs.Meaning.{extents}
use Rattle.run_values.specs.Numbers.{numbers}
use Rattle.run_loops.proofs.PartFrames.{outer_more, same_numbers}
use Rattle.run_loops.proofs.bounds.outer_shape.Goals as goal

pub loop-axis-preserved : goal.loop-axis-preserved
loop-axis-preserved c =
    let fits : FitsSigned w32 c.in-Some.extent = search rules in
    outer_more c.axes-axis-items.result.now c.loop-axis.axis-index c.axis-item.result (numbers c.loop-axis.few) (numbers c.push.new.self) c.in-Some.extent c.loop-axis-test.true c.axis-item.is c.in-Some.ensures (c.if-not-push.ensures.numbers ∙ ap (λ z. numbers c.loop-axis.few ++ z ∷ []) (to_z-of_z w32 c.in-Some.extent fits)) c.loop-axis.invariant

pub returns-in-Some-from_extents : goal.returns-in-Some-from_extents
returns-in-Some-from_extents c =
    same_numbers c.in-Some-from_extents.shape (extents c.args.grid.now)
    (c.in-Some-from_extents.ensures.value ∙ c.as_slice.ensures.numbers ∙ c.loop-axis.invariant ∙ ap (λ axes. map pos (extents axes)) (take_all c.loop-axis.axis-index c.axes-axis-items.result.now (omega (arith, c.loop-axis-test.false)) ∙ c.axes-axis-items.ensures.axes))
