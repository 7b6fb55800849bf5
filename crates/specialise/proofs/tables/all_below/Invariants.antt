use Rattle.std.proofs.Common.{◌≡◌, drop}
use Rattle.sac_base.specs.Types.{all_below}
use Rattle.specialise.proofs.tables.all_below.Given as goal

abbrev pub invariant-loop-k : goal.invariant-loop-k
invariant-loop-k l = all_below (drop l.k l.types) (drop l.k l.others) ≡ all_below l.types l.others
