use Rattle.counted_marks.proofs.WithoutMarks.{unmarked_well}
use Rattle.counted_marks.proofs.unmarked_is_well_marked.Goals as goal

pub returns : goal.returns
returns c = unmarked_well
