use Rattle.std.proofs.Common.{ap}
use Rattle.sac_words.specs.Meaning.{input_meant}
use Rattle.sac_top.proofs.Runs.{run_empty, run_generated}
use Rattle.sac_top.proofs.Tracing.{empty_traced, generated_traced}
use Rattle.sac_top.proofs.session.Session.answer_input.Goals as goal

pub returns-in-Empty-clause-answer : goal.returns-in-Empty-clause-answer
returns-in-Empty-clause-answer g c = run_empty _ _ _ _ _ _ (ap input_meant c.in-Empty.is) c.answer_text.ensures.answer

pub returns-in-Generated-clause-answer : goal.returns-in-Generated-clause-answer
returns-in-Generated-clause-answer g c = run_generated _ _ _ _ _ _ _ (ap input_meant c.in-Generated.is) c.answer_generated.ensures.answer

pub returns-in-Empty-clause-traced : goal.returns-in-Empty-clause-traced
returns-in-Empty-clause-traced g c = empty_traced _ _ _ _ _ _ _ (ap input_meant c.in-Empty.is) c.answer_text.ensures.traced

pub returns-in-Generated-clause-traced : goal.returns-in-Generated-clause-traced
returns-in-Generated-clause-traced g c = generated_traced _ _ _ _ _ _ _ _ (ap input_meant c.in-Generated.is) c.answer_generated.ensures.traced
