use Rattle.std.proofs.Common.{arith}
use Rattle.inline_calls.proofs.Sizing.{set_beyond}
use Rattle.inline_calls.proofs.sizes.note_size.Goals as goal

pub returns-else-place-len : goal.returns-else-place-len
returns-else-place-len c = set_beyond c.args.sizes.now.items c.args.place c.args.size (omega (arith, c.if-place-len.false, c.len.ensures))
