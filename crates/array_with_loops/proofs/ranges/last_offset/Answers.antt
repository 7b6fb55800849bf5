use Rattle.array_with_loops.proofs.RangeSteps.{last_is_greatest}
use Rattle.array_with_loops.proofs.ranges.last_offset.Goals as goal

pub returns-else-over-width-clause-greatest : goal.returns-else-over-width-clause-greatest
returns-else-over-width-clause-greatest c = last_is_greatest c.args.extent c.args.step c.args.width c.requires.extent c.requires.step c.requires.width c.if-over-width.false
