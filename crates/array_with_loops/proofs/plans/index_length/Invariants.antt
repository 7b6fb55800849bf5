use Rattle.std.proofs.Common.{◌≡◌, drop}
use Rattle.sac_base.specs.WithLoops.{index_length}
use Rattle.array_with_loops.proofs.plans.index_length.Given as goal

abbrev pub invariant-loop-g : goal.invariant-loop-g
invariant-loop-g l = index_length (drop l.g-index l.bounds) l.otherwise ≡ index_length l.bounds l.otherwise
