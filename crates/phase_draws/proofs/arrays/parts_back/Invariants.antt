use Rattle.std.proofs.Common.{◌≡◌, ◌+◌, ◌≤◌, ◌++◌, map, vec_len, vec_capacity}
use Rattle.std.specs.Vec.Iter.{into_iter_items, into_iter_len}
use Rattle.count_table.specs.Opening.{present}
use Rattle.phase_chunks.specs.Chunks.{ChunkReport}
use Rattle.phase_draws.proofs.arrays.parts_back.Given as goal

abbrev pub invariant-loop-report : goal.invariant-loop-report
invariant-loop-report l = goal.iterator-loop-report.can_next l.report-iterator
    × goal.iterator-loop-report.is_finite l.report-iterator
    × (l.parts.items ++ present (map (λ (r : ChunkReport). r.part) (into_iter_items l.report-iterator)) ≡ present (map (λ (r : ChunkReport). r.part) (into_iter_items l.initial.report-iterator)))
    × (vec_len l.parts + into_iter_len l.report-iterator ≤ vec_capacity l.parts)
