use Rattle.std.proofs.Common.{◌≡◌, take, map, pos, unsigned_abs}
use Rattle.run_plain.proofs.right.are_naturals.Given as goal

abbrev pub invariant-loop-n : goal.invariant-loop-n
invariant-loop-n l = map pos (map unsigned_abs (take l.n-index l.numbers)) ≡ take l.n-index l.numbers
