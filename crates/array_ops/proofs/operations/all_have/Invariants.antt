use Rattle.std.proofs.Common.{◌≡◌, drop}
use Rattle.sac_base.specs.Types.{all_have}
use Rattle.array_ops.proofs.operations.all_have.Given as goal

abbrev pub invariant-loop-k : goal.invariant-loop-k
invariant-loop-k l = all_have (drop l.k l.types) (drop l.k l.values) ≡ all_have l.types l.values
