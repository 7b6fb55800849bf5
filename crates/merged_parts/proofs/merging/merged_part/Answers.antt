use Rattle.std.proofs.Common.{◌+◌, ap, length, refl}
use Rattle.core_ir.specs.View.{block_term}
use Rattle.merge_plans.specs.Openings.{lets_of}
use Rattle.parted_bodies.specs.declared.names.Progress.{Progress}
use Rattle.merged_parts.proofs.Assembled.{grid_fits, next_made, number_alone, part_made, vars_reach}
use Rattle.merged_parts.proofs.merging.merged_part.Goals as goal

pub with_indices-requires : goal.with_indices-requires
with_indices-requires c = record {
  few = vars_reach c.args.grid.now c.args.inner.now (length c.axes-outer_axes.result.now) (length c.axes-outer_axes.result.now + length c.axes.result.now) _ c.in_ok-made.made.vars.items (ap length c.axes-outer_axes.ensures.axes)
      (λ i. length (c.axes-outer_axes.ensures.axes i) + length (c.axes.ensures.axes i)) c.in_ok-made.ensures.vars;
}

pub joined_grid-requires : goal.joined_grid-requires
joined_grid-requires c = grid_fits c.args.grid.now c.args.inner.now c.requires.fits

pub returns-clause-part : goal.returns-clause-part
returns-clause-part c =
    let p = c.args.progress.now in
    let one = ap (λ (q : Progress). q.next) c.in_ok-own.ensures.next in
    part_made c.args.grid.now c.in_ok-joined_grid.field-0 c.args.index (lets_of (block_term c.args.around.now)) c.args.inner.now p.next c.in_ok-own.own c.take.new.self.next (length c.axes-outer_axes.result.now)
    (length c.axes-outer_axes.result.now + length c.axes.result.now) c.components_of.new.progress.next _ _ c.in_ok-made.made.vars.items _ c.of.result c.of-2.result _
    c.in_ok-own.ensures.var one (ap length c.axes-outer_axes.ensures.axes) (λ i. length (c.axes-outer_axes.ensures.axes i) + length (c.axes.ensures.axes i)) c.in_ok-made.ensures.lets c.in_ok-made.ensures.vars
    (ap (λ (q : Progress). q.next) c.in_ok-made.ensures.next) c.in_ok-names.ensures.names c.of.ensures c.of-2.ensures c.in_ok-before.ensures c.in_ok-joined_grid.ensures refl refl refl c.in_ok-body_behind.ensures

pub returns-clause-next : goal.returns-clause-next
returns-clause-next c =
    let p = c.args.progress.now in
    let one = ap (λ (q : Progress). q.next) c.in_ok-own.ensures.next in
    let two = ap (λ (q : Progress). q.next) c.in_ok-made.ensures.next in
    let three = ap (λ (q : Progress). q.next) c.in_ok-names.ensures.next in
    let number = next_made c.args.grid.now c.args.index (lets_of (block_term c.args.around.now)) c.args.inner.now p.next c.take.new.self.next (length c.axes-outer_axes.result.now + length c.axes.result.now)
    c.components_of.new.progress.next c.names_for.new.progress.next one (λ i. length (c.axes-outer_axes.ensures.axes i) + length (c.axes.ensures.axes i)) two three in
    number_alone p c.take.new.self c.components_of.new.progress c.names_for.new.progress _ _ _ _ c.in_ok-own.ensures.next c.in_ok-made.ensures.next c.in_ok-names.ensures.next number
