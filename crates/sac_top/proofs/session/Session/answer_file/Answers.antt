use Rattle.std.proofs.Common.{ap, Ok, Err}
use Rattle.sac_top.proofs.Runs.{whole, longer, missing, file_failed}
use Rattle.sac_top.proofs.Tracing.{stays, not_run, whole_traced}
use Rattle.sac_top.proofs.session.Session.answer_file.Goals as goal

pub returns-in-Ok-Whole-clause-answer : goal.returns-in-Ok-Whole-clause-answer
returns-in-Ok-Whole-clause-answer g c =
    whole _ _ _ _ _ _ c.requires.named _ c.deref.result.now
    (rw c.deref.ensures.value (c.in-Ok-Whole.ensures.whole (ap Ok c.in-Ok-Whole.field-0-is)))
    (rw c.deref.ensures.value (c.in-Ok-Whole.ensures.within (ap Ok c.in-Ok-Whole.field-0-is)))
    c.answer_text.ensures.answer

pub returns-in-Ok-Longer-clause-answer : goal.returns-in-Ok-Longer-clause-answer
returns-in-Ok-Longer-clause-answer g c = longer _ _ _ _ _ _ c.requires.named _ (c.in-Ok-Longer.ensures.longer (ap Ok c.in-Ok-Longer.field-0-is)) c.answer_line.ensures

pub returns-in-Err-Missing-clause-answer : goal.returns-in-Err-Missing-clause-answer
returns-in-Err-Missing-clause-answer g c = missing _ _ _ _ _ _ c.requires.named _ (c.in-Err-Missing.ensures.missing (ap Err c.in-Err-Missing.field-0-is)) c.answer_line-in-Err-Missing.ensures

pub returns-in-Err-Failed-clause-answer : goal.returns-in-Err-Failed-clause-answer
returns-in-Err-Failed-clause-answer g c = file_failed _ _ _ _ _ _ c.requires.named _ (c.in-Err-Failed.ensures.failed (ap Err c.in-Err-Failed.field-0-is)) c.answer_line-in-Err-Failed.ensures

pub returns-in-Ok-Whole-clause-traced : goal.returns-in-Ok-Whole-clause-traced
returns-in-Ok-Whole-clause-traced g c =
    whole_traced _ _ _ _ _ _ _ _ c.deref.result.now c.requires.named
    (rw c.deref.ensures.value (c.in-Ok-Whole.ensures.whole (ap Ok c.in-Ok-Whole.field-0-is)))
    (rw c.deref.ensures.value (c.in-Ok-Whole.ensures.within (ap Ok c.in-Ok-Whole.field-0-is)))
    c.answer_text.ensures.traced

pub returns-in-Ok-Longer-clause-traced : goal.returns-in-Ok-Longer-clause-traced
returns-in-Ok-Longer-clause-traced g c = not_run _ _ _ (λ is. is) c.answer_line.ensures

pub returns-in-Ok-Longer-clause-left : goal.returns-in-Ok-Longer-clause-left
returns-in-Ok-Longer-clause-left g c = stays _ c.requires.new

pub returns-in-Err-Missing-clause-traced : goal.returns-in-Err-Missing-clause-traced
returns-in-Err-Missing-clause-traced g c = not_run _ _ _ (λ is. is) c.answer_line-in-Err-Missing.ensures

pub returns-in-Err-Missing-clause-left : goal.returns-in-Err-Missing-clause-left
returns-in-Err-Missing-clause-left g c = stays _ c.requires.new

pub returns-in-Err-Failed-clause-traced : goal.returns-in-Err-Failed-clause-traced
returns-in-Err-Failed-clause-traced g c = not_run _ _ _ (λ is. is) c.answer_line-in-Err-Failed.ensures

pub returns-in-Err-Failed-clause-left : goal.returns-in-Err-Failed-clause-left
returns-in-Err-Failed-clause-left g c = stays _ c.requires.new

pub returns-clause-left : goal.returns-clause-left
returns-clause-left g c = stays _ c.requires.new
