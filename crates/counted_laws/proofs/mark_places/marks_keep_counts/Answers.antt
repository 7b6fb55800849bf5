use Rattle.counted_laws.proofs.mark_places.Programs.{code_core, code_counted, code_prompt}
use Rattle.counted_laws.proofs.mark_places.marks_keep_counts.Goals as goal

pub returns-clause-counted : goal.returns-clause-counted
returns-clause-counted c = code_counted

pub returns-clause-prompt : goal.returns-clause-prompt
returns-clause-prompt c = code_prompt

pub returns-clause-same : goal.returns-clause-same
returns-clause-same c = code_core
