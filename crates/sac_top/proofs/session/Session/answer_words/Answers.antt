use Rattle.std.proofs.Common.{ap, Ok, Err, refl}
use Rattle.sac_io.specs.Count.{Rose}
use Rattle.sac_due.specs.Answer
use Rattle.sac_top.proofs.Whole.{no_numbers, refused_words, source_missing, source_failed, source_longer, fetched_once, once, on_err, refused_fetched, whole_answer, whole_calls}
use Rattle.sac_top.proofs.Tracing.{stays, not_run, source_traced, same_mode}
use Rattle.sac_top.proofs.Workers.{asked_workers}
use Rattle.sac_top.proofs.session.Session.answer_words.Goals as goal

pub answer_source-requires-clause-workers : goal.answer_source-requires-clause-workers
answer_source-requires-clause-workers g c κs within = asked_workers _ _ c.in-Ok.ensures.read

pub returns-in-Err-Refused-clause-answer : goal.returns-in-Err-Refused-clause-answer
returns-in-Err-Refused-clause-answer g c =
    refused_words _ _ _ _ _ _ _ (c.in-Err-Refused.ensures.refused (ap Err c.in-Err-Refused.field-0-is)) refl c.answer_line.ensures

pub returns-in-Err-Refused-clause-calls : goal.returns-in-Err-Refused-clause-calls
returns-in-Err-Refused-clause-calls g c =
    refused_fetched _ _ _ _ (c.in-Err-Refused.ensures.refused (ap Err c.in-Err-Refused.field-0-is))

pub returns-in-Err-Memory-clause-calls : goal.returns-in-Err-Memory-clause-calls
returns-in-Err-Memory-clause-calls g c = (0, Answer.memory refl, refl)

pub returns-in-Ok-Whole-clause-answer : goal.returns-in-Ok-Whole-clause-answer
returns-in-Ok-Whole-clause-answer g c =
    whole_answer _ _ _ _ c.in-Ok.ensures.read _ _
    (rw c.deref.ensures.value (c.in-Ok-Whole.ensures.whole (ap Ok c.in-Ok-Whole.field-0-is)))
    c.in-Ok-Whole.ensures.same_files _ _ _ c.in-Ok-Whole.ensures.one_call _ _ _ _ c.in-Ok-Whole.ensures.never_falls c.answer_source.ensures.answer

pub returns-in-Ok-Whole-clause-calls : goal.returns-in-Ok-Whole-clause-calls
returns-in-Ok-Whole-clause-calls g c =
    whole_calls _ _ _ _ c.in-Ok.ensures.read _ _
    (rw c.deref.ensures.value (c.in-Ok-Whole.ensures.whole (ap Ok c.in-Ok-Whole.field-0-is)))
    c.in-Ok-Whole.ensures.same_files _ _ _ c.in-Ok-Whole.ensures.one_call c.answer_source.ensures.calls

pub returns-in-Ok-Longer-clause-answer : goal.returns-in-Ok-Longer-clause-answer
returns-in-Ok-Longer-clause-answer g c =
    fetched_once _ _ _ _ _ c.in-Ok.ensures.read _ _ _ _ c.in-Ok-Longer.ensures.one_call
    (source_longer _ _ _ _ _ c.in-Ok.ensures.read (c.in-Ok-Longer.ensures.longer (ap Ok c.in-Ok-Longer.field-0-is))) c.answer_line-in-Ok-Longer.ensures

pub returns-in-Ok-Longer-clause-calls : goal.returns-in-Ok-Longer-clause-calls
returns-in-Ok-Longer-clause-calls g c = on_err _ _ (once _ _ no_numbers (Rose 0 0) _ c.in-Ok.ensures.read _ _ _ c.in-Ok-Longer.ensures.one_call)

pub returns-in-Err-Missing-clause-answer : goal.returns-in-Err-Missing-clause-answer
returns-in-Err-Missing-clause-answer g c =
    fetched_once _ _ _ _ _ c.in-Ok.ensures.read _ _ _ _ c.in-Err-Missing.ensures.one_call
    (source_missing _ _ _ _ _ c.in-Ok.ensures.read (c.in-Err-Missing.ensures.missing (ap Err c.in-Err-Missing.field-0-is))) c.answer_line-in-Err-Missing.ensures

pub returns-in-Err-Missing-clause-calls : goal.returns-in-Err-Missing-clause-calls
returns-in-Err-Missing-clause-calls g c = on_err _ _ (once _ _ no_numbers (Rose 0 0) _ c.in-Ok.ensures.read _ _ _ c.in-Err-Missing.ensures.one_call)

pub returns-in-Err-Failed-clause-answer : goal.returns-in-Err-Failed-clause-answer
returns-in-Err-Failed-clause-answer g c =
    fetched_once _ _ _ _ _ c.in-Ok.ensures.read _ _ _ _ c.in-Err-Failed.ensures.one_call
    (source_failed _ _ _ _ _ c.in-Ok.ensures.read (c.in-Err-Failed.ensures.failed (ap Err c.in-Err-Failed.field-0-is))) c.answer_line-in-Err-Failed.ensures

pub returns-in-Err-Failed-clause-calls : goal.returns-in-Err-Failed-clause-calls
returns-in-Err-Failed-clause-calls g c = on_err _ _ (once _ _ no_numbers (Rose 0 0) _ c.in-Ok.ensures.read _ _ _ c.in-Err-Failed.ensures.one_call)

pub returns-clause-calls : goal.returns-clause-calls
returns-clause-calls g c = once _ _ no_numbers (Rose 0 0) _ c.in-Ok.ensures.read _ _ _ c.in-Err-Memory-fetch.ensures.one_call

pub returns-in-Err-Refused-clause-traced : goal.returns-in-Err-Refused-clause-traced
returns-in-Err-Refused-clause-traced g c = λ asked means runs. not_run _ _ _ (λ is. is) c.answer_line.ensures

pub returns-in-Err-Refused-clause-left : goal.returns-in-Err-Refused-clause-left
returns-in-Err-Refused-clause-left g c = stays _ c.requires

pub returns-in-Err-Memory-clause-left : goal.returns-in-Err-Memory-clause-left
returns-in-Err-Memory-clause-left g c = stays _ c.requires

pub returns-in-Ok-Whole-clause-traced : goal.returns-in-Ok-Whole-clause-traced
returns-in-Ok-Whole-clause-traced g c =
    λ asked means runs. source_traced _ _ _ _ _ asked _ _ _ _ c.in-Ok.ensures.read means
    (rw c.deref.ensures.value (c.in-Ok-Whole.ensures.whole (ap Ok c.in-Ok-Whole.field-0-is)))
    c.in-Ok-Whole.ensures.same_files (c.answer_source.ensures.traced (same_mode _ _ asked c.in-Ok.ensures.read means runs))

pub returns-in-Ok-Longer-clause-traced : goal.returns-in-Ok-Longer-clause-traced
returns-in-Ok-Longer-clause-traced g c = λ asked means runs. not_run _ _ _ (λ is. is) c.answer_line-in-Ok-Longer.ensures

pub returns-in-Ok-Longer-clause-left : goal.returns-in-Ok-Longer-clause-left
returns-in-Ok-Longer-clause-left g c = stays _ c.requires

pub returns-in-Err-Missing-clause-traced : goal.returns-in-Err-Missing-clause-traced
returns-in-Err-Missing-clause-traced g c = λ asked means runs. not_run _ _ _ (λ is. is) c.answer_line-in-Err-Missing.ensures

pub returns-in-Err-Missing-clause-left : goal.returns-in-Err-Missing-clause-left
returns-in-Err-Missing-clause-left g c = stays _ c.requires

pub returns-in-Err-Failed-clause-traced : goal.returns-in-Err-Failed-clause-traced
returns-in-Err-Failed-clause-traced g c = λ asked means runs. not_run _ _ _ (λ is. is) c.answer_line-in-Err-Failed.ensures

pub returns-in-Err-Failed-clause-left : goal.returns-in-Err-Failed-clause-left
returns-in-Err-Failed-clause-left g c = stays _ c.requires

pub returns-clause-left : goal.returns-clause-left
returns-clause-left g c = stays _ c.requires
