use Rattle.counted_code.specs.Loops.{holder, part_holder}
use Rattle.counted_laws.proofs.mark_removal.Reached.{block_same, gens_same, parts_same}
use Rattle.counted_laws.proofs.mark_removal.cells_reach_no_mark.Goals as goal

pub returns-clause-blocks : goal.returns-clause-blocks
returns-clause-blocks c code reached clear turns left nest t is = block_same code reached clear turns left nest t is

pub returns-clause-generators : goal.returns-clause-generators
returns-clause-generators c code reached clear turns left nest gens is = gens_same code reached clear turns left nest gens is

pub returns-clause-parts : goal.returns-clause-parts
returns-clause-parts c code reached clear turns left nest parts is = parts_same code reached clear turns left nest parts is

pub returns-clause-with_cells : goal.returns-clause-with_cells
returns-clause-with_cells c code reached clear turns left nest gens is e h ranges = λ i. holder (gens_same code reached clear turns left nest gens is i e h) ranges

pub returns-clause-parted_cells : goal.returns-clause-parted_cells
returns-clause-parted_cells c code reached clear turns left nest parts is e = λ i. part_holder (parts_same code reached clear turns left nest parts is i e)
