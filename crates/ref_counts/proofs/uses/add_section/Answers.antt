use Rattle.ref_counts.specs.Listing.{each}
use Rattle.ref_counts.proofs.Collected.{closed}
use Rattle.ref_counts.proofs.uses.add_section.Goals as goal

pub returns : goal.returns
returns c =
    closed c.in_ok-head.head c.args.out.now.items c.open_section.new.out.items c.add_each.new.out.items c.close_section.new.out.items (each c.args.xs.now)
    c.in_ok-head.ensures.1 c.in_ok-add_each.ensures c.in_ok-head.ensures.0 c.close_section.ensures
