use Rattle.phase_cells.proofs.Samples.{lends_nothing}
use Rattle.phase_cells.proofs.tests.numbered.Goals as goal

pub array_phase-books-requires-clause-home : goal.array_phase-books-requires-clause-home
array_phase-books-requires-clause-home g c κs within = lends_nothing c.args.lends.now c.requires.lends
