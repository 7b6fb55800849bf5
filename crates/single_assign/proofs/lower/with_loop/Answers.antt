use Rattle.core_ir.proofs.Trees.{with_roll}
use Rattle.single_assign.proofs.lower.with_loop.Goals as goal

pub returns : goal.returns
returns c = with_roll (record { gens = c.args.gens; op = c.args.op })
