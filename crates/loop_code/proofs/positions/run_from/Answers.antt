use Rattle.std.proofs.Common.{◌≡◌, ◌+◌, ◌<◌, [], sym, ap, subst, ◌∙◌, arith}
use Rattle.std.specs.Prelude.{slice_index_or}
use Rattle.array_with_loops.specs.Ranges.{moved_last}
use Rattle.loop_code.specs.Runs.{HasPart}
use Rattle.loop_code.proofs.positions.run_from.Goals as goal

pub returns-clause-from : goal.returns-clause-from
returns-clause-from c = λ j lt.
    let is : c.as_slice.result.now ≡ slice_index_or c.args.indices.now c.args.place [] = c.as_slice.ensures.value ∙ c.in_ok-member.ensures in
    let near : j < c.row_left-most.result = omega (arith, lt, c.part_at.ensures.most) in
    let at : moved_last j c.as_slice.result.now ≡ slice_index_or c.args.indices.now (c.args.place + j) [] = ap (moved_last j) is ∙ sym (c.row_left-most.ensures.along j near) in
    subst (λ w. HasPart c.args.parts.now w c.part_at.result.part) at (c.part_at.ensures.along j lt)
