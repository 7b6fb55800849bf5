use Rattle.std.proofs.Common.{◌-◌, ◌∙◌, ap, refl, sym, map, length, List}
use Rattle.std.specs.Prelude.{drop}
use Rattle.core_ir.specs.declared.tree.Let.{Let}
use Rattle.core_ir.specs.declared.tree.PartedLoop.{out-PartedLoop}
use Rattle.core_ir.specs.declared.tree.WithLoop.{out-WithLoop}
use Rattle.core_ir.specs.Terms.{chain}
use Rattle.core_ir.specs.View.{let_term, right_term}
use Rattle.core_subst.specs.Substitution.{core_op_with, parted_op_with}
use Rattle.core_forms.specs.cleaning.Copies.{behind, forwarded, source}
use Rattle.copy_propagation.specs.Table.{source_in}
use Rattle.copy_propagation.proofs.Steps.{earlier_on, none_gone, let_turn, gen_turn, part_turn, none_left, block_end, with_end, parted_end}
use Rattle.copy_propagation.proofs.walk.+forwarding.Goals as goal

pub in_block-loop-binding-init : goal.in_block-loop-binding-init
in_block-loop-binding-init t c =
    let table = c.args.sources.now in
    record {
      bindings = λ end. ap (λ (ls : List Let). chain (map let_term ls) (forwarded (chain (map let_term c.into_iter-binding-iterator.result.rest.items) end) (source_in table))) c.new-forwarded.ensures.items;
      earlier = ap (λ n. drop (length table - n) table) c.mark-before.ensures ∙ none_gone table;
    }

pub in_block-loop-binding-preserved : goal.in_block-loop-binding-preserved
in_block-loop-binding-preserved t c =
    let v = c.loop-binding.invariant in
    let x = c.in-Some.binding in
    let right = c.in_ok-right.right in
    let table = c.loop-binding.sources in
    let now = c.note_copy.new.sources in
    let start = c.args.sources.now in
    let same = c.in_ok-right.ensures.sources in
    let noted = c.in_ok-note_copy.ensures in
    record {
      bindings = λ end. let_turn (source_in table) (source_in now) c.loop-binding.forwarded.items c.push.new.self.items c.loop-binding.binding-iterator.rest.items c.next.new.self.rest.items x _ end _ (v.bindings end) c.in-Some.ensures.steps.0 c.in_ok-push.ensures.items
          (λ i. record { targets = x.targets.items; site = x.site; right = c.in_ok-right.ensures.forwarded i })
          (noted.noted ∙ (λ i. behind (c.deref.ensures.value i) (source (right_term right)) (source_in (same i))));
      earlier = ap (λ n. drop (length now - n) now) c.mark-before.ensures
          ∙ earlier_on start table now (ap (λ n. drop (length table - n) table) (sym c.mark-before.ensures) ∙ v.earlier)
          (ap (λ m. drop (length now - length m) now) (sym same) ∙ noted.earlier ∙ same);
    }

pub in_block-returns-clause-forwarded : goal.in_block-returns-clause-forwarded
in_block-returns-clause-forwarded t c =
    let none = none_left c.loop-binding.binding-iterator.rest.len c.loop-binding.binding-iterator.rest.items c.in-None.ensures.steps.0 c.loop-binding.binding-iterator.rest.ok.0 in
    block_end (source_in c.loop-binding.sources) (source_in c.args.sources.now) c.loop-binding.binding-iterator.rest.items c.into_iter-binding-iterator.result.rest.items _ _ c.args.block
    c.loop-binding.invariant.bindings none c.into_iter-binding-iterator.ensures.into_iter_gives.0 c.in_ok-results.ensures c.deref-2.ensures.value

pub in_block-returns-clause-sources : goal.in_block-returns-clause-sources
in_block-returns-clause-sources t c = c.undo.ensures ∙ c.loop-binding.invariant.earlier

pub in_with-loop-generator-preserved : goal.in_with-loop-generator-preserved
in_with-loop-generator-preserved t c =
    let v = c.loop-generator.invariant in
    record {
      items = gen_turn (source_in c.args.sources.now) (source_in c.loop-generator.sources) c.loop-generator.forwarded.items _ c.loop-generator.generator-iterator.rest.items _ c.in-Some.generator _ _ v.items c.in-Some.ensures.steps.0 c.in_ok-push.ensures.items c.in_ok-in_gen.ensures.forwarded (ap source_in v.sources);
      sources = c.in_ok-in_gen.ensures.sources ∙ v.sources;
    }

pub in_with-returns-clause-forwarded : goal.in_with-returns-clause-forwarded
in_with-returns-clause-forwarded t c =
    let none = none_left c.loop-generator.generator-iterator.rest.len c.loop-generator.generator-iterator.rest.items c.in-None.ensures.steps.0 c.loop-generator.generator-iterator.rest.ok.0 in
    with_end (source_in c.args.sources.now) c.loop-generator.generator-iterator.rest.items _ _ c.args.with c.loop-generator.invariant.items none c.into_iter-generator-iterator.ensures.into_iter_gives.0
    (c.in_op.ensures ∙ (λ i. core_op_with (source_in (c.loop-generator.invariant.sources i)) (out-WithLoop c.args.with).op))

pub in_parted-loop-part-preserved : goal.in_parted-loop-part-preserved
in_parted-loop-part-preserved t c =
    let v = c.loop-part.invariant in
    record {
      items = part_turn (source_in c.args.sources.now) (source_in c.loop-part.sources) c.loop-part.forwarded.items _ c.loop-part.part-iterator.rest.items _ c.in-Some.part _ _ v.items c.in-Some.ensures.steps.0 c.in_ok-push.ensures.items c.in_ok-in_part.ensures.forwarded (ap source_in v.sources);
      sources = c.in_ok-in_part.ensures.sources ∙ v.sources;
    }

pub in_parted-returns-clause-forwarded : goal.in_parted-returns-clause-forwarded
in_parted-returns-clause-forwarded t c =
    let none = none_left c.loop-part.part-iterator.rest.len c.loop-part.part-iterator.rest.items c.in-None.ensures.steps.0 c.loop-part.part-iterator.rest.ok.0 in
    parted_end (source_in c.args.sources.now) c.loop-part.part-iterator.rest.items _ _ c.args.parted c.loop-part.invariant.items none c.into_iter-part-iterator.ensures.into_iter_gives.0
    (c.in_parted_op.ensures ∙ (λ i. parted_op_with (source_in (c.loop-part.invariant.sources i)) (out-PartedLoop c.args.parted).op)) refl refl refl
