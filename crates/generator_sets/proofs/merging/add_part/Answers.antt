use Rattle.generator_sets.proofs.Joining.{added_in}
use Rattle.generator_sets.proofs.merging.add_part.Goals as goal

pub returns-in-Some : goal.returns-in-Some
returns-in-Some c =
    added_in c.args.list.now.items c.as_slice.result.now c.in-Some.k c.args.axis c.args.part c.in-Some.side c.with_side.result c.as_slice.ensures.value c.with_side.ensures c.in-Some.ensures.place
    c.in-Some.ensures.label c.in-Some.ensures.union
