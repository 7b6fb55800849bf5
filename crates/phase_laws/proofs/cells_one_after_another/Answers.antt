use Rattle.phase_laws.proofs.Cells.{cells_leave}
use Rattle.phase_laws.proofs.Chunks.{each_told}
use Rattle.phase_laws.proofs.cells_one_after_another.Goals as goal

pub returns-clause-leaves : goal.returns-clause-leaves
returns-clause-leaves c holding h form source cell takes alone t new place vs k owns same = cells_leave holding h form source cell takes alone t new place vs k owns same

pub returns-clause-told : goal.returns-clause-told
returns-clause-told c holding h form source cell takes alone t new place vs owns = each_told holding h form source cell takes alone owns t new place vs
