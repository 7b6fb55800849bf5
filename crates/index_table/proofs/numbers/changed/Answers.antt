use Rattle.std.proofs.Common.{w32}
use Rattle.std.proofs.lemmas.Int.{wrapping_add_is, wrapping_sub_is}
use Rattle.index_table.proofs.numbers.changed.Goals as goal

pub returns-in-Added : goal.returns-in-Added
returns-in-Added c = rw c.in-Added.is (wrapping_add_is w32 _ _ c.ranges.number c.ranges.by)

pub returns-in-Taken : goal.returns-in-Taken
returns-in-Taken c = rw c.in-Taken.is (wrapping_sub_is w32 _ _ c.ranges.number c.ranges.by)
