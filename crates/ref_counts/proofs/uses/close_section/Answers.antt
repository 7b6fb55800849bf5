use Rattle.std.proofs.Common.{arith}
use Rattle.ref_counts.proofs.Collected.{closes_set}
use Rattle.ref_counts.proofs.uses.close_section.Goals as goal

pub returns : goal.returns
returns c before inner h at = closes_set c.args.head _ c.args.out.now.items c.set_entry.new.out.items before inner h at c.set_entry.ensures (omega arith)
