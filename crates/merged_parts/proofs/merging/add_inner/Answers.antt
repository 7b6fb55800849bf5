use Rattle.std.proofs.Common.{refl, ap}
use Rattle.core_ir.specs.View.{block_term}
use Rattle.merge_plans.specs.Openings.{lets_of}
use Rattle.parted_bodies.specs.declared.names.Progress.{Progress}
use Rattle.merged_parts.proofs.Assembled.{inner_done, inner_next, inner_next_done, inner_turn, this_fits}
use Rattle.merged_parts.proofs.merging.add_inner.Goals as goal

pub loop-part-init : goal.loop-part-init
loop-part-init c = record { parts = refl; next = refl }

pub loop-part-preserved : goal.loop-part-preserved
loop-part-preserved c =
    let lets = lets_of (block_term c.args.around.now) in
    let v = c.loop-part.invariant in
    record {
      parts = inner_turn c.args.grid.now c.args.index lets c.args.inner.now c.loop-part.part-index c.part-item.result c.in_ok-made.made c.loop-part.merged.items c.push.new.self.items c.loop-part.progress.next _ _
          c.loop-part-test.true c.part-item.is v.parts c.in_ok-made.ensures.part c.in_ok-push.ensures.items (ap (λ (q : Progress). q.next) c.in_ok-made.ensures.next);
      next = inner_next c.args.grid.now c.args.index lets c.args.inner.now c.loop-part.part-index c.part-item.result c.loop-part.progress c.merged_part.new.progress _ c.loop-part-test.true c.part-item.is v.next c.in_ok-made.ensures.next;
    }

pub merged_part-requires : goal.merged_part-requires
merged_part-requires c = record { fits = this_fits c.args.grid.now c.args.inner.now c.loop-part.part-index c.part-item.result c.loop-part-test.true c.part-item.is c.requires.fits }

pub returns-clause-parts : goal.returns-clause-parts
returns-clause-parts c = inner_done c.args.grid.now c.args.index (lets_of (block_term c.args.around.now)) c.args.inner.now c.loop-part.merged.items c.loop-part.part-index _ _ c.loop-part-test.false c.loop-part.invariant.parts

pub returns-clause-next : goal.returns-clause-next
returns-clause-next c = inner_next_done c.args.grid.now c.args.index (lets_of (block_term c.args.around.now)) c.args.inner.now c.loop-part.part-index c.loop-part.progress _ c.loop-part-test.false c.loop-part.invariant.next
