use Rattle.std.proofs.Common.{ap, ◌∙◌}
use Rattle.count_table.specs.Opening.{present}
use Rattle.count_table.proofs.Ending.{opens, present-map}
use Rattle.count_table.proofs.phase.Phase.open_parts.Goals as goal

pub new-requires : goal.new-requires
new-requires g c =
    opens c.as_slice.result.now c.of.result.value.items c.args.counts.now c.fill_slots.new.slots.items c.args.parts.items c.of-2.result.value.items (c.as_slice.ensures.value ∙ c.in-Ok.ensures)
    (ap (λ v. v.items) c.of.ensures ∙ c.in-Ok.ensures) c.fill_slots.ensures.slots (ap (λ v. v.items) c.of-2.ensures) c.requires.counts c.requires.parts

pub returns-in-Err-clause-back : goal.returns-in-Err-clause-back
returns-in-Err-clause-back g c = c.empty_slots.ensures ∙ ap present (c.in-Err.ensures.err ∙ c.fill_slots.ensures.slots) ∙ present-map c.args.parts.items
