use Rattle.std.proofs.Common.{◌≡◌, drop}
use Rattle.sac_base.specs.Types.{all_below}
use Rattle.kernel_callees.specs.Choosing.{types_of}
use Rattle.kernel_callees.proofs.instance.all_below.Given as goal

abbrev pub invariant-loop-k : goal.invariant-loop-k
invariant-loop-k l = all_below (types_of (drop l.k l.params)) (types_of (drop l.k l.others)) ≡ all_below (types_of l.params) (types_of l.others)
