use Rattle.std.proofs.Common.{◌≡◌, drop}
use Rattle.sac_base.specs.Types.{all_have}
use Rattle.source_meaning.specs.Parameters.{types_of_params}
use Rattle.source_meaning.proofs.calls.all_fit.Given as goal

abbrev pub invariant-loop-k : goal.invariant-loop-k
invariant-loop-k l = all_have (types_of_params (drop l.k l.params)) (drop l.k l.args) ≡ all_have (types_of_params l.params) l.args
