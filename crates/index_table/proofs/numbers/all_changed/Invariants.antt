use Rattle.std.proofs.Common.{◌≡◌, ◌++◌, drop}
use Rattle.index_table.specs.Numbers.{steps}
use Rattle.index_table.proofs.numbers.all_changed.Given as goal

abbrev pub invariant-loop-k : goal.invariant-loop-k
invariant-loop-k l = l.sums.items ++ steps l.change (drop l.k l.numbers) (drop l.k l.by) ≡ steps l.change l.numbers l.by
