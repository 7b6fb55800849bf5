use Rattle.std.proofs.Common.{rules}
use Rattle.run_values.proofs.Outside.{freed_behind, freed_past}
use Rattle.run_values.proofs.frames.free.Goals as goal

pub returns-then-own-len : goal.returns-then-own-len
returns-then-own-len c = freed_behind c.args.outside.now c.args.slots.now.items c.args.slot c.in-Some.own (search rules) (search rules)

pub returns-else-own-len : goal.returns-else-own-len
returns-else-own-len c = freed_past c.args.outside.now c.args.slots.now.items c.args.slot c.in-Some.own (search rules) (search rules)
