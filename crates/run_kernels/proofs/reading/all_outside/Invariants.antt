use Rattle.std.proofs.Common.{All, take}
use Rattle.run_values.specs.Scopes.{current}
use Rattle.phase_laws.specs.only_reads.Reads.{Outside}
use Rattle.run_kernels.specs.Scopes.{refers}
use Rattle.run_kernels.proofs.reading.all_outside.Given as goal

abbrev pub invariant-loop-x : goal.invariant-loop-x
invariant-loop-x l = All (Outside (refers (current l.frames))) (take l.x-index l.xs)
