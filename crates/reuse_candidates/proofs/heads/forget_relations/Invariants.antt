use Rattle.std.proofs.Common.{◌≡◌, ◌-◌, ◌≤◌, drop, length}
use Rattle.core_loops.specs.Indices.{note_others}
use Rattle.index_table.specs.Table.{indices_of}
use Rattle.reuse_candidates.proofs.heads.forget_relations.Given as goal

abbrev pub invariant-loop-var : goal.invariant-loop-var
invariant-loop-var l = record {
  forgotten : note_others (indices_of l.indices) (drop l.var-index l.vars) ≡ note_others (indices_of l.fn.indices) l.vars;
  longer : length l.fn.indices ≤ length l.indices;
  behind : drop (length l.indices - length l.fn.indices) l.indices ≡ l.fn.indices;
}
