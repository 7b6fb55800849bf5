use Rattle.std.proofs.Common.{◌+◌, ◌++◌, ◌∷◌, [], drop, take, length, map, refl, arith, ap, sym, ◌∙◌}
use Rattle.core_ir.specs.declared.tree.Block.{out-Block}
use Rattle.core_ir.specs.declared.tree.CoreGen.{out-CoreGen}
use Rattle.core_ir.specs.declared.tree.WithLoop.{out-WithLoop}
use Rattle.core_ir.specs.declared.tree.PartedLoop.{out-PartedLoop}
use Rattle.core_ir.specs.Scopes.{op_uses, parted_uses, head_uses}
use Rattle.core_ir.specs.Terms.{Gives, chain}
use Rattle.core_ir.specs.View.{block_term, let_term, right_term, gen_term, part_term}
use Rattle.ref_rules.specs.declared.listed_uses.list.Entry.TheVariants.{Use, Section}
use Rattle.ref_rules.specs.listed_uses.Latest.{section}
use Rattle.counted_laws.specs.placing.Placing.{placing_right}
use Rattle.ref_counts.specs.Listing.{each, listed, listed_right}
use Rattle.ref_counts.specs.Owning.{owned_vars}
use Rattle.counted_code.specs.Pieces.{code_gen_term, code_part_term}
use Rattle.ref_counts.specs.Pieces.{placing_gen, placing_part}
use Rattle.ref_counts.proofs.Blocks.{at_binding, at_let, all_uses, own_uses, at_last, block_done, first_placed, item_here, next_placed}
use Rattle.ref_counts.proofs.CodeTrees.{with_done, parted_done, gen_done, part_done, owns, if_done, loop_done}
use Rattle.ref_counts.proofs.Collected.{let_listed, gen_listed, part_listed}
use Rattle.ref_counts.proofs.Placed.{dropped, let_done}
use Rattle.ref_counts.proofs.Positions.{if_places, loop_places, length_each, first_gen, next_gen, first_part, next_part, gen_body, part_body, mapped_more}
use Rattle.ref_rules.proofs.Taken.{drop_here}
use Rattle.ref_counts.proofs.place.+place.Goals as goal

pub place_block-returns : goal.place_block-returns
place_block-returns t c later h =
    let items = c.deref-binding-items.result.now in
    let at = c.loop-binding in
    let rs = (out-Block c.args.block.now).results.items in
    let so = at.invariant later h in
    let left = so.left ∙ at_last at.binding-index items (each rs) (omega arith) in
    block_done c.args.block.now c.args.refs.now (owned_vars at.owned) c.deref-2.result.now c.in_ok-copy_vars.field-0.items items at.binding-index at.steps.items c.place_results.new.steps.items so.placed (omega arith) c.deref-binding-items.ensures.value
    c.deref-2.ensures.value (c.in_ok-place_results.ensures (take c.section_end-end.result c.args.uses.now) so.sound (left ∙ ap each (sym c.deref-2.ensures.value))) (c.in_ok-copy_vars.ensures ∙ c.deref-3.ensures.value ∙ sym c.deref-2.ensures.value)

pub place_block-loop-binding-init : goal.place_block-loop-binding-init
place_block-loop-binding-init t c later h =
    let items = c.deref-binding-items.result.now in
    let inner = listed (block_term c.args.block.now) in
    let skips = c.skip-from.ensures (Section (length inner) ∷ []) refl in
    record {
      all = all_uses c.args.block.now c.args.uses.now c.args.start c.skip-from.result items later skips h c.deref-binding-items.ensures.value;
      left = own_uses c.args.block.now c.args.uses.now c.args.start c.section_end-end.result c.skip-from.result items later (c.section_end-end.ensures inner) skips h c.deref-binding-items.ensures.value;
      sound = c.in_ok-owned.ensures.sound tt;
      placed = first_placed c.new-steps.result.items (owned_vars c.in_ok-owned.owned) c.args.refs.now (chain (map let_term items) (Gives (out-Block c.args.block.now).results.items)) c.new-steps.ensures.items c.in_ok-owned.ensures.vars;
    }

pub place_block-loop-binding-preserved : goal.place_block-loop-binding-preserved
place_block-loop-binding-preserved t c later h =
    let items = c.deref-binding-items.result.now in
    let at = c.loop-binding in
    let b = c.binding-item.result in
    let rs = (out-Block c.args.block.now).results.items in
    let whole = drop at.binding-index items in
    let more = drop (at.binding-index + 1) items in
    let own = take c.section_end-end.result c.args.uses.now in
    let so = at.invariant later h in
    let here = item_here items at.binding-index b c.loop-binding-test.true c.binding-item.is in
    let all = so.all ∙ at_binding whole more b (each rs ++ later) here in
    let past = c.section_end-to.ensures (listed_right (right_term b.right)) (let_listed more ++ (each rs ++ later)) all in
    let step = c.in_ok-stay.ensures own (let_listed more ++ (each rs ++ later)) (chain (map let_term more) (Gives rs)) so.sound (so.left ∙ at_let whole more b rs here) all past.0 in
    record {
      all = past.1;
      left = dropped own at.from c.section_end-to.result (section (listed_right (right_term b.right))) (let_listed more ++ each rs) (so.left ∙ at_binding whole more b (each rs) here) past.0;
      sound = c.in_ok-owned-2.ensures.sound step.0;
      placed = next_placed at.steps.items c.place_let.new.steps.items (owned_vars at.owned) (owned_vars c.in_ok-owned-2.owned) (owned_vars c.in_ok-stay.stay) b.targets.items c.deref.result.now rs c.args.refs.now b whole more items here c.in_ok-owned-2.ensures.vars c.deref.ensures.value step.1 so.placed;
    }

pub place_let-returns : goal.place_let-returns
place_let-returns t c es later rest sound e all to =
    let r = right_term c.args.binding.now.right in
    let inside = c.skip.ensures (Section (length (listed_right r)) ∷ []) refl (listed_right r ++ later) all in
    let_done es c.args.from c.args.to c.args.binding.now rest
    c.new-dead.result.items c.take_unused.new.out.items c.deref.result.now c.in_ok-handed.handed.items c.deref-2.result.now c.new-mine.result.items c.take_given.new.mine.items c.deref-3.result.now c.deref-5.result.now
    c.in_ok-more.more.items c.deref-4.result.now c.deref-6.result.now c.in_ok-targets.targets.items
    c.args.owned c.in_ok-live.live c.in_ok-stay.stay _ c.args.steps.now.items c.push_releases.new.steps.items c.push_keeps.new.steps.items c.push_binding.new.steps.items
    sound e to (omega (arith, c.ranges.to.fits))
    c.new-dead.ensures.items (c.in_ok-live.ensures es) c.deref.ensures.value c.in_ok-push_releases.ensures
    c.in_ok-handed.ensures
    c.new-mine.ensures.items (c.in_ok-stay.ensures es)
    c.deref-2.ensures.value c.deref-3.ensures.value c.in_ok-more.ensures c.deref-4.ensures.value c.in_ok-push_keeps.ensures
    c.deref-5.ensures.value (c.in_ok-right.ensures later inside.1) c.deref-6.ensures.value c.in_ok-targets.ensures c.in_ok-push_binding.ensures

pub place_right-returns-in_ok-place_block-in-If-2 : goal.place_right-returns-in_ok-place_block-in-If-2
place_right-returns-in_ok-place_block-in-If-2 t c later h =
    let a = block_term c.in-If.yes in
    let b = block_term c.in-If.no in
    let places = if_places c.args.uses.now c.args.from c.skip-first.result c.section_end-second.result c.in-If.cond a b (right_term c.args.right.now) later h (ap right_term c.in-If.is)
    (c.skip-first.ensures (Use c.in-If.cond ∷ []) refl) (c.section_end-second.ensures (listed a)) in
    if_done c.in-If.cond c.args.mine.now c.in_ok-place_block-in-If.field-0 c.in_ok-place_block-in-If-2.field-0 a b (c.in_ok-place_block-in-If.ensures (section (listed b) ++ later) places.0) (c.in_ok-place_block-in-If-2.ensures later places.1)
    ∙ sym (ap (λ r. placing_right c.args.mine.now (right_term r)) c.in-If.is)

pub place_right-returns-in_ok-place_block-in-Loop-2 : goal.place_right-returns-in_ok-place_block-in-Loop-2
place_right-returns-in_ok-place_block-in-Loop-2 t c later h =
    let test = block_term c.in-Loop.test in
    let body = block_term c.in-Loop.body in
    let places = loop_places c.args.uses.now c.args.from c.skip-first-in-Loop.result c.section_end-second-in-Loop.result c.in-Loop.start.items test body (right_term c.args.right.now) later h (ap (λ r. listed_right (right_term r)) c.in-Loop.is)
    (c.skip-first-in-Loop.ensures (each c.in-Loop.start.items) (omega (arith, length_each c.in-Loop.start.items))) (c.section_end-second-in-Loop.ensures (listed test)) in
    loop_done c.in-Loop.first_body c.in-Loop.start.items c.deref-in-Loop.result.now c.in_ok-copy_vars-in-Loop.field-0.items c.in-Loop.params.items c.deref-in-Loop-2.result.now c.in_ok-copy_vars-in-Loop-2.field-0.items c.deref-in-Loop-3.result.now
    c.in_ok-place_block-in-Loop.field-0 c.in_ok-place_block-in-Loop-2.field-0 test body c.in-Loop.test_site
    c.in_ok-copy_vars-in-Loop.ensures c.deref-in-Loop.ensures.value c.in_ok-copy_vars-in-Loop-2.ensures c.deref-in-Loop-2.ensures.value
    (c.in_ok-place_block-in-Loop.ensures (section (listed body) ++ later) places.0) (c.in_ok-place_block-in-Loop-2.ensures later places.1) c.deref-in-Loop-3.ensures.value
    ∙ sym (ap (λ r. placing_right c.args.mine.now (right_term r)) c.in-Loop.is)

pub place_with-returns : goal.place_with-returns
place_with-returns t c later h =
    with_done _ c.args.with.now c.deref-generator-items.result.now c.loop-generator.generator-index refl (c.loop-generator.invariant later h).1 (omega arith) c.deref-generator-items.ensures.value

pub place_with-loop-generator-init : goal.place_with-loop-generator-init
place_with-loop-generator-init t c later h =
    (first_gen c.args.with.now c.args.uses.now c.args.from c.section_end-at.result c.deref-generator-items.result.now later h (c.section_end-at.ensures (each (op_uses (out-WithLoop c.args.with.now).op))) c.deref-generator-items.ensures.value, ap (map code_gen_term) c.new-gens.ensures.items)

pub place_with-loop-generator-preserved : goal.place_with-loop-generator-preserved
place_with-loop-generator-preserved t c later h =
    let items = c.deref-generator-items.result.now in
    let at = c.loop-generator in
    let g = c.generator-item.result in
    let more = drop (at.generator-index + 1) items in
    let so = at.invariant later h in
    let here = drop_here items at.generator-index g c.loop-generator-test.true ∙ ap (λ d. d ∷ more) (sym c.generator-item.is) in
    let places = next_gen c.args.uses.now at.at c.section_end-body.result c.section_end-next.result g (drop at.generator-index items) more later here so.0 (c.section_end-body.ensures (each (head_uses (gen_term g).head))) (c.section_end-next.ensures (listed (gen_term g).body)) in
    (places.1, mapped_more code_gen_term (λ d. placing_gen (gen_term d)) at.gens.items c.push.new.self.items c.in_ok-place_gen.field-0 items at.generator-index g so.1 c.in_ok-push.ensures.items c.loop-generator-test.true c.generator-item.is (c.in_ok-place_gen.ensures (gen_listed more ++ later) places.0))

pub place_parted-returns : goal.place_parted-returns
place_parted-returns t c later h =
    parted_done _ c.args.parted.now c.deref-part-items.result.now c.loop-part.part-index c.in_ok-frame.ensures refl c.copy-cell.ensures refl refl (c.loop-part.invariant later h).1 (omega arith) c.deref-part-items.ensures.value

pub place_parted-loop-part-init : goal.place_parted-loop-part-init
place_parted-loop-part-init t c later h =
    (first_part c.args.parted.now c.args.uses.now c.args.from c.section_end-at.result c.deref-part-items.result.now later h (c.section_end-at.ensures (each (parted_uses (out-PartedLoop c.args.parted.now).op))) c.deref-part-items.ensures.value, ap (map code_part_term) c.new-parts.ensures.items)

pub place_parted-loop-part-preserved : goal.place_parted-loop-part-preserved
place_parted-loop-part-preserved t c later h =
    let items = c.deref-part-items.result.now in
    let at = c.loop-part in
    let p = c.part-item.result in
    let more = drop (at.part-index + 1) items in
    let so = at.invariant later h in
    let here = drop_here items at.part-index p c.loop-part-test.true ∙ ap (λ d. d ∷ more) (sym c.part-item.is) in
    let places = next_part c.args.uses.now at.at c.section_end-next.result p (drop at.part-index items) more later here so.0 (c.section_end-next.ensures (listed (part_term p).body)) in
    (places.1, mapped_more code_part_term (λ d. placing_part (part_term d)) at.parts.items c.push.new.self.items c.in_ok-place_part.field-0 items at.part-index p so.1 c.in_ok-push.ensures.items c.loop-part-test.true c.part-item.is (c.in_ok-place_part.ensures (part_listed more ++ later) places.0))

pub place_gen-returns : goal.place_gen-returns
place_gen-returns t c later h =
    gen_done c.args.generator.now c.in_ok-copy_vars.field-0.items c.deref-3.result.now _ (c.in_ok-copy_vars.ensures ∙ c.deref-2.ensures.value)
    (owns (out-CoreGen c.args.generator.now).index c.new-own.result.items c.push.new.self.items (out-CoreGen c.args.generator.now).names.items c.deref.result.now c.extend_from_slice.new.self.items c.deref-3.result.now
    c.new-own.ensures.items c.in_ok-push.ensures.items c.deref.ensures.value c.in_ok-extend_from_slice.ensures.items c.deref-3.ensures.value)
    (c.in_ok-place_block.ensures later (h ∙ ap (λ b. section (listed b) ++ later) (gen_body c.args.generator.now)))

pub place_part-returns : goal.place_part-returns
place_part-returns t c later h =
    part_done c.args.part.now _ _ c.in_ok-copy.ensures (c.in_ok-place_block.ensures later (h ∙ ap (λ b. section (listed b) ++ later) (part_body c.args.part.now)))
