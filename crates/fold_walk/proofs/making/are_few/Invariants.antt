use Rattle.std.proofs.Common.{◌≡◌, ◌+◌, ◌≤◌, drop}
use Rattle.fold_walk.specs.Making.{piece_count}
use Rattle.fold_walk.proofs.making.are_few.Given as goal

abbrev pub invariant-loop-of_part : goal.invariant-loop-of_part
invariant-loop-of_part l = record {
  counted : l.count + piece_count (drop l.of_part-index l.pieces) ≡ piece_count l.pieces;
  few : l.count ≤ 64;
}
