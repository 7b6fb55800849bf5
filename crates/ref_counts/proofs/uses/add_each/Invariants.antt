use Rattle.std.proofs.Common.{◌≡◌, ◌++◌, drop}
use Rattle.ref_counts.specs.Listing.{each}
use Rattle.ref_counts.proofs.uses.add_each.Given as goal

abbrev pub invariant-loop-x : goal.invariant-loop-x
invariant-loop-x l = l.out.items ++ each (drop l.x-index l.xs) ≡ l.initial.out.items ++ each l.xs
