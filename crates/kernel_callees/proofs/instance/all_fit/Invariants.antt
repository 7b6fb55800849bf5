use Rattle.std.proofs.Common.{Bool, drop}
use Rattle.sac_base.specs.Types.{all_have}
use Rattle.kernel_callees.specs.Choosing.{Decides, types_of}
use Rattle.kernel_callees.proofs.instance.all_fit.Given as goal

abbrev pub invariant-loop-k : goal.invariant-loop-k
invariant-loop-k l = (b : Bool) → Decides (drop l.k l.args) (all_have (types_of (drop l.k l.params))) b → Decides l.args (all_have (types_of l.params)) b
