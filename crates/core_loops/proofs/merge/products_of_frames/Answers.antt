use Rattle.core_loops.proofs.merge.Nested.{product}
use Rattle.core_loops.proofs.merge.products_of_frames.Goals as goal

pub returns : goal.returns
returns c = product
