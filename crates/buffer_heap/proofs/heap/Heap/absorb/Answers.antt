use Rattle.buffer_heap.proofs.Lives.{even_together}
use Rattle.buffer_heap.proofs.heap.Heap.absorb.Goals as goal

pub invariant_of-self : goal.invariant_of-self
invariant_of-self c = (even_together c.self.inside c.other.inside c.args.other c.other.view_is c.requires c.self.invariant.0 c.other.invariant.0, c.self.invariant.1)
