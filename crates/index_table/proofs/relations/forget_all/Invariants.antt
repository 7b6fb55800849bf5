use Rattle.std.proofs.Common.{◌≡◌, ◌-◌, ◌≤◌, drop, length}
use Rattle.core_loops.specs.Indices.{note_others}
use Rattle.index_table.specs.Table.{indices_of}
use Rattle.index_table.proofs.relations.forget_all.Given as goal

abbrev pub invariant-loop-x : goal.invariant-loop-x
invariant-loop-x l = record {
  forgotten : note_others (indices_of l.indices) (drop l.x-index l.xs) ≡ note_others (indices_of l.fn.indices) l.xs;
  longer : length l.fn.indices ≤ length l.indices;
  behind : drop (length l.indices - length l.fn.indices) l.indices ≡ l.fn.indices;
}
