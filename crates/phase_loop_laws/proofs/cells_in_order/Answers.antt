use Rattle.sac_base.specs.WithLoops.{each}
use Rattle.counted_code.specs.Loops.{cells_do, write_cell}
use Rattle.phase_laws.specs.Spending.{total}
use Rattle.phase_loop_laws.proofs.Cells.{cells_end, ends_with, fails_with}
use Rattle.phase_loop_laws.proofs.cells_in_order.Goals as goal

pub returns-clause-values : goal.returns-clause-values
returns-clause-values c h form source cell takes stands t new place vs cs is =
    ends_with (total takes vs) h (cells_do form source (write_cell t) place vs h) (each cell vs) cs (cells_end h form source cell takes stands t new place vs) is

pub returns-clause-fault : goal.returns-clause-fault
returns-clause-fault c h form source cell takes stands t new place vs f is =
    fails_with (total takes vs) h (cells_do form source (write_cell t) place vs h) (each cell vs) f (cells_end h form source cell takes stands t new place vs) is
