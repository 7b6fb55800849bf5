use Rattle.std.proofs.Common.{◌≡◌, length, take}
use Rattle.run_kernels.proofs.scope.numbers_of.Given as goal

abbrev pub invariant-loop-k : goal.invariant-loop-k
invariant-loop-k l = record {
  long : length l.cells ≡ 8;
  same : take l.k l.cells ≡ take l.k l.list;
}
