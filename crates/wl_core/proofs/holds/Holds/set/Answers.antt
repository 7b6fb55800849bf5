use Rattle.wl_core.proofs.Buffers.{sets_times}
use Rattle.wl_core.proofs.holds.Holds.set.Goals as goal

pub returns : goal.returns
returns c = sets_times c.args.self.now c.self.inside.workers c.self.inside.buffers c.args.worker c.args.buffer c.args.times c.self.inside.numbers.items c.self.view_is c.self.invariant c.requires.worker c.requires.buffer
