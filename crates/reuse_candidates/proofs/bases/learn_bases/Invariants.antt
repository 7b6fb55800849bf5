use Rattle.std.proofs.Common.{◌≡◌, ◌-◌, ◌≤◌, drop, length}
use Rattle.counted_marks.specs.Bases.{note_bases}
use Rattle.reuse_candidates.specs.Tables.{bases_of}
use Rattle.reuse_candidates.proofs.bases.learn_bases.Given as goal

abbrev pub invariant-loop-k : goal.invariant-loop-k
invariant-loop-k l = record {
  noted : note_bases (bases_of l.table) (drop l.k l.vars) (drop l.k l.bases) ≡ note_bases (bases_of l.fn.table) l.vars l.bases;
  longer : length l.fn.table ≤ length l.table;
  behind : drop (length l.table - length l.fn.table) l.table ≡ l.fn.table;
}
