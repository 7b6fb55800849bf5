use Rattle.std.proofs.Common.{arith}
use Rattle.specialise.proofs.Steps.{set_over}
use Rattle.specialise.proofs.order.note_place.Goals as goal

pub returns-else-number-len : goal.returns-else-number-len
returns-else-number-len c = set_over c.args.places.now.items c.args.number c.args.place (omega (arith, c.if-number-len.false, c.len.ensures))
