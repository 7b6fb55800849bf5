use Rattle.std.proofs.Common.{◌≡◌, ◌+◌, min, map, take}
use lib.IntN.{nat_abs}
use Rattle.sac_base.specs.Arrays.{size, MOST}
use Rattle.sac_base.proofs.places.capped_product.Given as goal

abbrev pub invariant-loop-n : goal.invariant-loop-n
invariant-loop-n l = l.all ≡ min (MOST + 1) (size (map nat_abs (take l.n-index l.extents)))
