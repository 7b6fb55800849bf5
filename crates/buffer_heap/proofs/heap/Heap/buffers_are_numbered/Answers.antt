use Rattle.buffer_heap.proofs.Numbers.{referred}
use Rattle.buffer_heap.proofs.heap.Heap.buffers_are_numbered.Goals as goal

pub returns-clause-referred : goal.returns-clause-referred
returns-clause-referred c = referred c.self.inside c.args.self.now c.self.view_is
