use Rattle.own_kernels.proofs.Cells.{cells_read_own}
use Rattle.own_kernels.proofs.Gives.{gives_same}
use Rattle.own_kernels.proofs.own_kernels_read_own.Goals as goal

pub returns-clause-gives : goal.returns-clause-gives
returns-clause-gives c turns rank at k index r bs cs own long has same = gives_same turns rank at k index r bs cs own long has same

pub returns-clause-cells : goal.returns-clause-cells
returns-clause-cells c calls turns parts form known kernels are v rank own bs e scope indices all base p f lt same = cells_read_own calls turns parts form known kernels are v rank own bs e scope indices all base p f lt same
