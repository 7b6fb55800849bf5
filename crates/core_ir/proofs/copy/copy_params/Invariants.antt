use Rattle.std.proofs.Common.{◌≡◌, take}
use Rattle.core_ir.proofs.copy.copy_params.Given as goal

abbrev pub invariant-loop-var : goal.invariant-loop-var
invariant-loop-var l = l.copy.items ≡ take l.var-index l.params
