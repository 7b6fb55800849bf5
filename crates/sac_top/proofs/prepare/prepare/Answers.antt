use Rattle.std.proofs.Common.{ap, rules}
use Rattle.run_eval.specs.declared.trace.Trace.{Trace}
use Rattle.sac_top.proofs.Tracing.{retold}
use Rattle.sac_top.proofs.prepare.prepare.Goals as goal

pub returns-clause-traced : goal.returns-clause-traced
returns-clause-traced g c =
    λ asked means runs. retold c.answer_words.result asked _ _ _ c.answer_words.new.self.trace.now _ c.answer_words.new.self.heap.now _
    (ap (λ (t : Trace). t.tally) c.new-session.ensures.trace_now) (search rules) (search rules) (c.answer_words.ensures.traced asked means runs)
