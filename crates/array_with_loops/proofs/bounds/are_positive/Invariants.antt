use Rattle.std.proofs.Common.{◌≡◌, drop, take, All, pos}
use Rattle.std.specs.Prelude.{int_le}
use Rattle.std.specs.List.{list_all}
use Rattle.array_with_loops.specs.Ranges.{IsStep}
use Rattle.array_with_loops.proofs.bounds.are_positive.Given as goal

abbrev pub invariant-loop-z : goal.invariant-loop-z
invariant-loop-z l = record {
  value : list_all (int_le (pos 1)) (drop l.z-index l.zs) ≡ list_all (int_le (pos 1)) l.zs;
  steps : All IsStep (take l.z-index l.zs);
}
