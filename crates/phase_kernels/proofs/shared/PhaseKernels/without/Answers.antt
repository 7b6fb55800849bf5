use Rattle.phase_kernels.proofs.Bare.{without_kernels}
use Rattle.phase_kernels.specs.Listed.{listed}
use Rattle.phase_kernels.proofs.shared.PhaseKernels.without.Goals as goal

pub invariant_of-result : goal.invariant_of-result
invariant_of-result c = without_kernels c.args.cells c.new.result.items (listed c.none.result) c.new-2.result.items c.new.ensures.items c.none.ensures
