use Rattle.std.proofs.Common.{◌≡◌, ◌+◌, ◌≤◌, ◌++◌, vec_len, vec_capacity}
use Rattle.std.specs.Vec.Iter.{into_iter_items, into_iter_len}
use Rattle.phase_draws.proofs.turns.gather_reports.Given as goal

abbrev pub invariant-loop-report : goal.invariant-loop-report
invariant-loop-report l = goal.iterator-loop-report.can_next l.report-iterator
    × goal.iterator-loop-report.is_finite l.report-iterator
    × (l.reports.items ++ into_iter_items l.report-iterator ≡ l.initial.reports.items ++ into_iter_items l.initial.report-iterator)
    × (vec_len l.reports + into_iter_len l.report-iterator ≤ vec_capacity l.reports)
    × (vec_capacity l.reports ≡ vec_capacity l.initial.reports)
