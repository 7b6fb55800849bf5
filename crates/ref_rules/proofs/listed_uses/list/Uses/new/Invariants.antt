use Rattle.std.proofs.Common.{◌≡◌, length, take}
use Rattle.ref_rules.specs.listed_uses.Latest.{AreLast}
use Rattle.ref_rules.proofs.listed_uses.Recorded.{AreChainedTo}
use Rattle.ref_rules.proofs.listed_uses.list.Uses.new.Given as goal

abbrev pub invariant-loop-place : goal.invariant-loop-place
invariant-loop-place l = record {
  known : AreLast l.last (take l.place l.entries.items);
  chained : AreChainedTo l.place l.earlier.items l.entries.items;
  size : length l.earlier.items ≡ l.place;
}
