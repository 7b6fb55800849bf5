use Rattle.phase_laws.proofs.Chunks.{chunks_ran, chunks_leave, in_halves, pieces_together}
use Rattle.phase_laws.proofs.cells_in_chunks.Goals as goal

pub returns-clause-ran : goal.returns-clause-ran
returns-clause-ran c holding h form source cell takes alone blind t new owns place chunks = chunks_ran holding h form source cell takes alone blind t new owns place chunks

pub returns-clause-leaves : goal.returns-clause-leaves
returns-clause-leaves c holding h form source cell takes alone blind t new owns place chunks = chunks_leave holding h form source cell takes alone blind t new owns place chunks

pub returns-clause-halves : goal.returns-clause-halves
returns-clause-halves c form source writing place xs ys h = in_halves form source writing place xs ys h

pub returns-clause-whole : goal.returns-clause-whole
returns-clause-whole c ns vs = pieces_together ns vs
