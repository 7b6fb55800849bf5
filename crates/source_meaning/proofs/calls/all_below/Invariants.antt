use Rattle.std.proofs.Common.{◌≡◌, drop}
use Rattle.sac_base.specs.Types.{all_below}
use Rattle.source_meaning.specs.Parameters.{types_of_params}
use Rattle.source_meaning.proofs.calls.all_below.Given as goal

abbrev pub invariant-loop-k : goal.invariant-loop-k
invariant-loop-k l = all_below (types_of_params (drop l.k l.params)) (types_of_params (drop l.k l.others)) ≡ all_below (types_of_params l.params) (types_of_params l.others)
