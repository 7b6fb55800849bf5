use Rattle.run_loops.proofs.OldArrays.{full_without}
use Rattle.run_loops.proofs.bounds.is_full.Goals as goal

pub returns-in_default : goal.returns-in_default
returns-in_default c = λ m stands full. full_without c.args.value.now c.args.shape.now m c.in_default.not-Buffer
