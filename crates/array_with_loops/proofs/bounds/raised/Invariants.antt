use Rattle.std.proofs.Common.{◌≡◌, take, All}
use Rattle.array_with_loops.specs.Plans.{raised_list}
use Rattle.array_with_loops.specs.Ranges.{IsBound}
use Rattle.array_with_loops.proofs.bounds.raised.Given as goal

abbrev pub invariant-loop-z : goal.invariant-loop-z
invariant-loop-z l = record {
  value : l.bounds.items ≡ raised_list l.raise (take l.z-index l.zs);
  each : All IsBound l.bounds.items;
}
