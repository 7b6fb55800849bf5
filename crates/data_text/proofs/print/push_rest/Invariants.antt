use Rattle.std.proofs.Common.{◌≡◌, ◌++◌, take}
use Rattle.std.specs.List.{flat_map}
use Rattle.data_text.specs.Printed.{further_extent}
use Rattle.data_text.proofs.print.push_rest.Given as goal

abbrev pub invariant-loop-extent : goal.invariant-loop-extent
invariant-loop-extent l = l.into.items ≡ l.fn.into.items ++ flat_map further_extent (take l.extent-index l.extents)
