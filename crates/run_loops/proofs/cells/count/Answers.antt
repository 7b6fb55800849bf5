use Rattle.std.proofs.Common.{rules, refl}
use Rattle.run_loops.proofs.CellPhases.{counted_stands}
use Rattle.run_loops.proofs.cells.count.Goals as goal

pub returns-clause-stands : goal.returns-clause-stands
returns-clause-stands c m n long at = counted_stands c.count.result c.args.state.now _ c.args.counts m n c.args.positions long (search rules) refl c.count.ensures at
