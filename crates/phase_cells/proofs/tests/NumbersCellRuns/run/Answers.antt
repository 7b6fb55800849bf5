use Rattle.phase_cells.proofs.Samples.{written}
use Rattle.phase_cells.proofs.tests.NumbersCellRuns.run.Goals as goal

pub returns-clause-tells : goal.returns-clause-tells
returns-clause-tells c k stands opens = written c.args.position c.args.into.now c.requires.width
