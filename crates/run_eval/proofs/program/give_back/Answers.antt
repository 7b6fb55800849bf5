use Rattle.run_eval.proofs.WholeRuns.{all_or_memory}
use Rattle.run_eval.proofs.program.give_back.Goals as goal

pub returns-in-Some : goal.returns-in-Some
returns-in-Some c = all_or_memory c.args.answer _ _ _ c.in-Some.ensures.tally c.in-Some.ensures.cut
