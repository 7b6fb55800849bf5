use Rattle.std.proofs.Common.{◌≡◌, ◌-◌, ◌++◌}
use Rattle.unreached_functions.specs.Emptied.{numbered as numbered_from}
use Rattle.unreached_functions.proofs.empty.numbered.Given as goal

abbrev pub invariant-loop-k : goal.invariant-loop-k
invariant-loop-k l = l.vars.items ++ numbered_from l.next (l.count - l._k) ≡ numbered_from l.fn.first.0 l.fn.count
