use Rattle.core_ir.proofs.Unused.{unused, drop_unused}
use Rattle.core_ir.proofs.laws.unused_variable.Goals as goal

pub returns-clause-no_say : goal.returns-clause-no_say
returns-clause-no_say c = unused

pub returns-clause-dropped : goal.returns-clause-dropped
returns-clause-dropped c = drop_unused
