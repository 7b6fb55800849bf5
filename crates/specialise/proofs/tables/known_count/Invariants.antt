use Rattle.std.proofs.Common.{◌≡◌, ◌+◌, ◌≤◌, drop, map}
use Rattle.specialise.specs.Plans.{entries}
use Rattle.specialise.specs.Tables.{types_at, known_count}
use Rattle.specialise.proofs.tables.known_count.Given as goal

abbrev pub invariant-loop-k : goal.invariant-loop-k
invariant-loop-k l = record {
  low : l.count ≤ l.k;
  sum : l.count + known_count (map (types_at (entries l.items)) (drop l.k l.members)) ≡ known_count (map (types_at (entries l.items)) l.members);
}
