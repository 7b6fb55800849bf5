use Rattle.std.proofs.Common.{◌≡◌, map, take}
use Rattle.shape_types.specs.Instances.{types_of}
use Rattle.specialise.specs.Plans.{entries}
use Rattle.specialise.specs.Tables.{types_at}
use Rattle.specialise.proofs.tables.table_of.Given as goal

abbrev pub invariant-loop-member : goal.invariant-loop-member
invariant-loop-member l = types_of l.table.items ≡ map (types_at (entries l.items)) (take l.member-index l.members)
