use Rattle.std.proofs.Common.{sym}
use Rattle.counted_code.specs.View.{code_program}
use Rattle.kernel_callees.specs.Calls.{calls_of}
use Rattle.phase_kernels.proofs.lowering.lowering_of.Goals as goal

pub returns : goal.returns
returns c = λ i. calls_of (code_program (sym c.get.ensures.same i)) c.args.context.now.left c.args.context.now.nest
