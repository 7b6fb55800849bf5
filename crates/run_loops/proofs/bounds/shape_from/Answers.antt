use Rattle.std.proofs.Common.{◌∙◌}
use Rattle.run_values.specs.Numbers.{numbers}
use Rattle.run_loops.proofs.OldArrays.{shape_is}
use Rattle.run_loops.proofs.bounds.shape_from.Goals as goal

pub returns-in-Some : goal.returns-in-Some
returns-in-Some c = shape_is c.in-Some.shape (numbers c.args.extents.now) (c.in-Some.ensures.value ∙ c.as_slice.ensures.numbers)
