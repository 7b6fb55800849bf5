use Rattle.std.proofs.Common.{◌+◌}
use Rattle.phase_workers.specs.Covered.{cell_of}
use Rattle.phase_workers.proofs.Covering.{some_there}
use Rattle.phase_workers.proofs.covered.CoveredCellsCellRuns.run_together.Goals as goal

pub returns-clause-tells : goal.returns-clause-tells
returns-clause-tells c = λ j lt. some_there (cell_of c.args.self.now.cells (c.args.start + j)) _ (c.run_together.ensures.tells j lt)
