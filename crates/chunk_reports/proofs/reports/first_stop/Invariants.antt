use Rattle.std.proofs.Common.{◌≡◌, drop}
use Rattle.chunk_reports.specs.Stops.{first_stop_of}
use Rattle.chunk_reports.proofs.reports.first_stop.Given as goal

abbrev pub invariant-loop-report : goal.invariant-loop-report
invariant-loop-report g l = first_stop_of l.reports ≡ first_stop_of (drop l.report-index l.reports)
