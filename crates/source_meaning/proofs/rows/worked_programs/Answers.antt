use Rattle.source_meaning.proofs.Worked.{worked}
use Rattle.source_meaning.proofs.rows.worked_programs.Goals as goal

pub returns : goal.returns
returns c = worked
