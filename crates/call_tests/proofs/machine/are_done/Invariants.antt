use Rattle.wl_core.specs.Reading.{IsReached}
use Rattle.call_tests.proofs.machine.are_done.Given as goal

abbrev pub invariant-accepted : goal.invariant-accepted
invariant-accepted l = IsReached l.setup l.state
