use Rattle.std.proofs.Common.{◌≡◌, ◌++◌, drop, length}
use Rattle.specialise.specs.Plans.{entries}
use Rattle.specialise.specs.Orders.{keys_from}
use Rattle.specialise.proofs.order.keys_of.Given as goal

abbrev pub invariant-loop-item : goal.invariant-loop-item
invariant-loop-item l = l.keys.items ++ keys_from (length l.keys.items) (entries (drop l.item-index l.items)) ≡ keys_from 0 (entries l.items)
