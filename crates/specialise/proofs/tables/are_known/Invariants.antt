use Rattle.std.proofs.Common.{◌≡◌, drop}
use Rattle.specialise.specs.groups.Specialised.{all_known}
use Rattle.specialise.proofs.tables.are_known.Given as goal

abbrev pub invariant-loop-k : goal.invariant-loop-k
invariant-loop-k l = all_known (drop l.k l.types) ≡ all_known l.types
