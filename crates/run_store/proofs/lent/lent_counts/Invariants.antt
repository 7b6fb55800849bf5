use Rattle.std.proofs.Common.{◌≡◌, ◌≤◌, ◌^◌, take, map}
use Rattle.std.specs.Prelude.{All}
use Rattle.run_store.specs.Lents.{opening_count}
use Rattle.run_store.proofs.lent.lent_counts.Given as goal

abbrev pub invariant-loop-place : goal.invariant-loop-place
invariant-loop-place l =
    (l.counts.items ≡ map opening_count (take l.place l.heap.places)) × All (λ n. (1 ≤ n) × (n ≤ 2 ^ 62)) l.counts.items
