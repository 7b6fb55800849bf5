use Rattle.core_ir.specs.Scopes.{head_uses}
use Rattle.core_ir.specs.View.{gen_term}
use Rattle.ref_counts.specs.Listing.{each}
use Rattle.ref_counts.proofs.Collected.{closed, bounds_collected}
use Rattle.ref_counts.proofs.uses.add_bounds.Goals as goal

pub returns : goal.returns
returns c =
    let g = c.args.generator.now in
    closed c.in_ok-head.head c.args.out.now.items c.open_section.new.out.items c.add_option-4.new.out.items c.close_section.new.out.items (each (head_uses (gen_term g).head))
    c.in_ok-head.ensures.1
    (bounds_collected g c.open_section.new.out.items c.add_option.new.out.items c.add_option-2.new.out.items c.add_option-3.new.out.items c.add_option-4.new.out.items
    c.in_ok-add_option.ensures c.in_ok-add_option-2.ensures c.in_ok-add_option-3.ensures c.in_ok-add_option-4.ensures)
    c.in_ok-head.ensures.0 c.close_section.ensures
