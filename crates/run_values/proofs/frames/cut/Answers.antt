use Rattle.std.proofs.Common.{rules}
use Rattle.run_values.proofs.Outside.{cut_behind}
use Rattle.run_values.proofs.frames.cut.Goals as goal

pub returns : goal.returns
returns c = cut_behind c.args.outside.now c.args.slots.now.items c.truncate.new.self.items c.args.base (search rules)
