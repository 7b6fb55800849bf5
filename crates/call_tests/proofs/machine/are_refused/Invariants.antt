use Rattle.wl_core.specs.Reading.{IsReached}
use Rattle.call_tests.proofs.machine.are_refused.Given as goal

abbrev pub invariant-refusals : goal.invariant-refusals
invariant-refusals l = IsReached l.setup l.state
