use Rattle.std.proofs.Common.{◌++◌, take}
use Rattle.counted_code.specs.Counts.{Reordered}
use Rattle.phase_checks.proofs.bags.take_all.Given as goal

abbrev pub invariant-loop-x : goal.invariant-loop-x
invariant-loop-x l = Reordered l.initial.refs.items (take l.x-index l.xs ++ l.refs.items)
