use Rattle.phase_cells.proofs.Samples.{written}
use Rattle.phase_cells.proofs.tests.NumbersCellRuns.run_alone.Goals as goal

pub returns-clause-tells : goal.returns-clause-tells
returns-clause-tells c = written c.args.position c.args.into.now c.requires.width
