use Rattle.counted_laws.proofs.mark_places.Programs.{code_core, code_counted, code_prompt}
use Rattle.counted_marks.specs.Marking.{marking_code}
use Rattle.counted_marks.proofs.Left.{code_left, code_well}
use Rattle.counted_marks.proofs.Marked.{code_marked}
use Rattle.counted_marks.proofs.marking_is_right.Goals as goal

pub returns-clause-marks : goal.returns-clause-marks
returns-clause-marks c = code_marked

pub returns-clause-counted : goal.returns-clause-counted
returns-clause-counted c code counted = code_counted code (marking_code code) (code_marked code) counted

pub returns-clause-prompt : goal.returns-clause-prompt
returns-clause-prompt c code prompt = code_prompt code (marking_code code) (code_marked code) prompt

pub returns-clause-well : goal.returns-clause-well
returns-clause-well c = code_well

pub returns-clause-none_left : goal.returns-clause-none_left
returns-clause-none_left c = code_left

pub returns-clause-same : goal.returns-clause-same
returns-clause-same c code = code_core code (marking_code code) (code_marked code)
