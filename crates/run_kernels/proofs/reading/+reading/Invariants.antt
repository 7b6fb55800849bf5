use Rattle.run_values.specs.Scopes.{current}
use Rattle.run_kernels.specs.Plain.{plain_in}
use Rattle.run_kernels.specs.Scopes.{refers}
use Rattle.run_kernels.proofs.Walks.{ReadsFrom}
use Rattle.run_kernels.proofs.reading.+reading.Given as goal

abbrev pub invariant-block_reads-loop-step : goal.invariant-block_reads-loop-step
invariant-block_reads-loop-step l = ReadsFrom (plain_in l.plain) (refers (current l.frames)) l.step-items l.step-index
