use Rattle.std.proofs.Common.{◌<◌, [], length, ◌∙◌, sym, ap, arith}
use Rattle.std.proofs.lemmas.List.{get_or_read}
use Rattle.sac_base.specs.Grids.{has_vector}
use Rattle.array_with_loops.specs.Ranges.{moved_last}
use Rattle.loop_code.proofs.grids.part_at.Goals as goal

pub returns-then-run-clause-along : goal.returns-then-run-clause-along
returns-then-run-clause-along c = λ j lt.
    let parts = c.args.parts.now in
    let v = c.args.index.now in
    let part = c.loop-part.part in
    let inside : c.loop-part.part < length c.args.parts.now = omega (arith, c.loop-part-test.true) in
    record {
      inside = inside;
      here = ap (λ g. has_vector g (moved_last j v)) (sym (get_or_read parts part c.index-parts-part.result inside c.index-parts-part.is [])) ∙ c.grid_run-run.ensures.same j lt ∙ c.if-run.true;
      before = λ i low. c.loop-part.invariant.before i j low (omega (arith, lt, c.grid_run-run.ensures.most));
    }

pub returns-clause-along : goal.returns-clause-along
returns-clause-along c = λ j lt k inside. c.loop-part.invariant.before k j (omega (arith, inside, c.loop-part-test.false, c.loop-part.auto.part-end)) lt
