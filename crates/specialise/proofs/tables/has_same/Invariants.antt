use Rattle.std.proofs.Common.{◌≡◌, drop, map}
use Rattle.specialise.specs.Plans.{entries}
use Rattle.specialise.specs.Tables.{types_at, has_same}
use Rattle.specialise.proofs.tables.has_same.Given as goal

abbrev pub invariant-loop-k : goal.invariant-loop-k
invariant-loop-k l = has_same (map (types_at (entries l.items)) (drop l.k l.members)) l.types ≡ has_same (map (types_at (entries l.items)) l.members) l.types
