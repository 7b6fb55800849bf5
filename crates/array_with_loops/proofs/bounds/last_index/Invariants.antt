use Rattle.std.proofs.Common.{◌≡◌, take, map, pos, ◌-ℤ◌}
use Rattle.array_with_loops.proofs.bounds.last_index.Given as goal

abbrev pub invariant-loop-n : goal.invariant-loop-n
invariant-loop-n l = l.zs.items ≡ map (λ z. z -ℤ pos 1) (take l.n-index l.n-items)
