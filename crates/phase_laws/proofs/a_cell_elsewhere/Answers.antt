use Rattle.phase_laws.proofs.Chunks.{elsewhere}
use Rattle.phase_laws.proofs.a_cell_elsewhere.Goals as goal

pub returns : goal.returns
returns c holding h k form source cell takes alone owns balance same v = elsewhere holding h form source cell takes alone owns k balance same v
