use Rattle.std.proofs.Common.{Bool, drop}
use Rattle.sac_base.specs.Types.{all_have}
use Rattle.kernel_callees.specs.Choosing.{Decides}
use Rattle.kernel_callees.proofs.instance.are_in.Given as goal

abbrev pub invariant-loop-k : goal.invariant-loop-k
invariant-loop-k l = (b : Bool) → Decides (drop l.k l.held) (all_have (drop l.k l.types)) b → Decides l.held (all_have l.types) b
