use Rattle.phase_workers.specs.Covered.{cell_of}
use Rattle.phase_workers.proofs.covered.CoveredCellsCellRuns.run.Goals as goal

pub returns-clause-tells : goal.returns-clause-tells
returns-clause-tells c k stands is =
    c.covered.ensures.tells (cell_of c.args.self.now.cells c.args.position) c.run.new.into (c.run.ensures.tells k stands is)
