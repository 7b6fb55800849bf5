use Rattle.std.proofs.Common.{◌+◌}
use Rattle.phase_cells.proofs.Works.{none_raised}
use Rattle.phase_cells.proofs.worker.LentCellsPhaseCellsHeap.stretch.Goals as goal

pub returns-in-Some-clause-free : goal.returns-in-Some-clause-free
returns-in-Some-clause-free g c = λ j kind lt. none_raised (g.C.CellRuns.takes c.args.self.now.cells.now (c.args.start + j)) kind (c.run_together.ensures.takes j lt)
