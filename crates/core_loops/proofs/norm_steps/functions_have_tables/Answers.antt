use Rattle.core_loops.proofs.norm_steps.Tables.{has_table}
use Rattle.core_loops.proofs.norm_steps.functions_have_tables.Goals as goal

pub returns : goal.returns
returns c = has_table
