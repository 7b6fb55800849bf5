use Rattle.std.proofs.Common.{◌≡◌, ◌-◌, ◌≤◌, drop, length}
use Rattle.counted_marks.specs.Bases.{note_ints}
use Rattle.reuse_candidates.specs.Tables.{bases_of}
use Rattle.reuse_candidates.proofs.bases.learn_ints.Given as goal

abbrev pub invariant-loop-var : goal.invariant-loop-var
invariant-loop-var l = record {
  noted : note_ints (bases_of l.table) (drop l.var-index l.vars) ≡ note_ints (bases_of l.fn.table) l.vars;
  longer : length l.fn.table ≤ length l.table;
  behind : drop (length l.table - length l.fn.table) l.table ≡ l.fn.table;
}
