use Rattle.std.proofs.Common.{drop}
use Rattle.ref_rules.proofs.Counted.{AreCountsBut}
use Rattle.ref_rules.proofs.surplus.counts_of.Given as goal

abbrev pub invariant-loop-x : goal.invariant-loop-x
invariant-loop-x l = AreCountsBut l.counts (drop l.x-index l.xs) l.xs
