use Rattle.phase_workers.specs.Covered.{cell_of}
use Rattle.phase_workers.proofs.covered.CoveredCellsCellRuns.run_alone.Goals as goal

pub returns-clause-tells : goal.returns-clause-tells
returns-clause-tells c =
    c.covered.ensures.tells (cell_of c.args.self.now.cells c.args.position) c.run_alone.new.into c.in_ok-end.ensures.tells
