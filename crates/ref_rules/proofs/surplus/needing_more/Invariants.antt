use Rattle.std.proofs.Common.{drop}
use Rattle.counted_laws.specs.placing.Placing.{surplus}
use Rattle.ref_rules.proofs.Counted.{Due}
use Rattle.ref_rules.proofs.surplus.needing_more.Given as goal

abbrev pub invariant-loop-x : goal.invariant-loop-x
invariant-loop-x l = Due l.free l.more.items (drop l.x-index l.places) (surplus l.places l.own)
