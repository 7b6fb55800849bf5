use Rattle.std.proofs.Common.{◌≡◌, drop, ◌++◌, Ok, All, length, ◌≤◌}
use Rattle.sac_base.specs.Outcomes.{and_then}
use Rattle.sac_base.specs.WithLoops.{each, range_of}
use Rattle.array_with_loops.specs.Plans.{frame_if}
use Rattle.array_with_loops.proofs.plans.ranges_of.Given as goal

abbrev pub invariant-loop-g : goal.invariant-loop-g
invariant-loop-g l = record {
  told : and_then (each (range_of l.n l.most (frame_if l.bounded l.frame) l.frame) (drop l.g-index l.bounds)) (λ rest. Ok (l.ranges.items ++ rest))
      ≡ each (range_of l.n l.most (frame_if l.bounded l.frame) l.frame) l.bounds;
  ranks : All (λ r. length r ≤ 8) l.ranges.items;
  lengths : All (λ r. length r ≡ l.n) l.ranges.items;
}
