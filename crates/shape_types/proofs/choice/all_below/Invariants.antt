use Rattle.std.proofs.Common.{◌≡◌, drop}
use Rattle.sac_base.specs.Types.{all_below}
use Rattle.shape_types.proofs.choice.all_below.Given as goal

abbrev pub invariant-loop-k : goal.invariant-loop-k
invariant-loop-k l = all_below (drop l.k l.params) (drop l.k l.others) ≡ all_below l.params l.others
