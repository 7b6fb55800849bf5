use Rattle.std.proofs.Common.{◌≡◌, drop, map}
use Rattle.core_loops.specs.Indices.{components_from}
use Rattle.index_table.specs.Table.{indices_of}
use Rattle.index_table.specs.Numbers.{behind}
use Rattle.index_table.proofs.relations.row.Given as goal

abbrev pub invariant-loop-k : goal.invariant-loop-k
invariant-loop-k l = behind l.numbers.items (components_from l.k (map (indices_of l.indices) (drop l.k l.xs))) ≡ components_from 0 (map (indices_of l.indices) l.xs)
