use Rattle.std.proofs.Common.{◌-◌, ◌∙◌, ap, refl, sym, map, length, List}
use Rattle.std.specs.Prelude.{drop}
use Rattle.core_ir.specs.declared.tree.CoreGen.{out-CoreGen}
use Rattle.core_ir.specs.Terms.{chain}
use Rattle.core_ir.specs.View.{let_term}
use Rattle.core_forms.specs.cleaning.Unused.{swept}
use Rattle.fact_table.specs.Table.{facts_of}
use Rattle.plain_facts.specs.Called.{shapes_of}
use Rattle.fact_table.proofs.scoped_table.Marks.{earlier_on, none_gone}
use Rattle.unused_bindings.specs.declared.swept.SweptLet.{SweptLet}
use Rattle.unused_bindings.specs.Passed.{passed_term}
use Rattle.unused_bindings.specs.Swept.{needed_before}
use Rattle.unused_bindings.proofs.Loops.{gen_made}
use Rattle.unused_bindings.proofs.Turns.{let_turn, known_turn, none_left, on_ok, block_swept, block_known, with_swept, parted_swept}
use Rattle.unused_bindings.proofs.walk.+sweeping.Goals as goal

pub in_block-loop-binding-init : goal.in_block-loop-binding-init
in_block-loop-binding-init t c =
    let table = c.args.table.now in
    record {
      bindings = λ end. ap (λ (ps : List SweptLet). needed_before (map passed_term ps) (swept (shapes_of c.args.called.now) (chain (map let_term c.into_iter-binding-iterator.result.rest.items) end) (facts_of table))) c.new-passed.ensures.items;
      facts = λ end. refl;
      earlier = ap (λ n. drop (length table - n) table) c.mark-before.ensures ∙ none_gone table;
    }

pub in_block-loop-binding-preserved : goal.in_block-loop-binding-preserved
in_block-loop-binding-preserved t c =
    let v = c.loop-binding.invariant in
    let called = shapes_of c.args.called.now in
    let table = c.loop-binding.table in
    let now = c.pass_binding.new.table in
    let before = c.loop-binding.binding-iterator.rest.items in
    let rest = c.next.new.self.rest.items in
    let x = c.in-Some.binding in
    let y = c.in_ok-pass_binding.field-0 in
    let new = c.in_ok-pass_binding.ensures in
    let start = c.args.table.now in
    record {
      bindings = λ end. let_turn called (facts_of table) (facts_of now) before rest x c.in-Some.ensures.steps.0 new.learned y new.swept new.value c.loop-binding.passed.items c.push.new.self.items end _ (v.bindings end) c.in_ok-push.ensures.items;
      facts = λ end. known_turn called (facts_of table) (facts_of now) before rest x c.in-Some.ensures.steps.0 new.learned end _ (v.facts end);
      earlier = ap (λ n. drop (length now - n) now) c.mark-before.ensures
          ∙ earlier_on start table now (ap (λ n. drop (length table - n) table) (sym c.mark-before.ensures) ∙ v.earlier) new.earlier;
    }

pub in_block-returns-clause-swept : goal.in_block-returns-clause-swept
in_block-returns-clause-swept t c =
    let rest = c.loop-binding.binding-iterator.rest in
    let none = none_left rest.len rest.items c.in-None.ensures.steps.0 rest.ok.0 in
    block_swept (shapes_of c.args.called.now) (facts_of c.args.table.now) (facts_of c.loop-binding.table) c.loop-binding.passed.items rest.items c.into_iter-binding-iterator.result.rest.items c.args.block c.needed_block.result
    c.loop-binding.invariant.bindings none c.into_iter-binding-iterator.ensures.into_iter_gives.0 c.needed_block.ensures.block

pub in_block-returns-clause-known : goal.in_block-returns-clause-known
in_block-returns-clause-known t c =
    let rest = c.loop-binding.binding-iterator.rest in
    let none = none_left rest.len rest.items c.in-None.ensures.steps.0 rest.ok.0 in
    block_known (shapes_of c.args.called.now) (facts_of c.args.table.now) (facts_of c.loop-binding.table) rest.items c.into_iter-binding-iterator.result.rest.items c.args.block c.in_ok-known.known c.needed_block.result
    c.loop-binding.invariant.facts none c.into_iter-binding-iterator.ensures.into_iter_gives.0 (c.in_ok-known.ensures ∙ ap (map (facts_of c.loop-binding.table)) c.deref.ensures.value) c.needed_block.ensures.known

pub in_block-returns-clause-table : goal.in_block-returns-clause-table
in_block-returns-clause-table t c =
    on_ok c.needed_block.result (c.undo.ensures ∙ c.loop-binding.invariant.earlier)

pub in_gen-invariant_of-result : goal.in_gen-invariant_of-result
in_gen-invariant_of-result t c =
    let g = out-CoreGen c.args.generator in
    record {
      uses = gen_made (record { lower = g.lower; lower_closed = g.lower_closed; upper = g.upper; upper_closed = g.upper_closed; step = g.step; width = g.width; index = g.index; names = g.names; body = c.in_ok-body.body.block; site = g.site }) _ _ c.in_ok-body.body.uses c.in_ok-add_head.ensures;
    }

pub in_gen-returns-clause-table : goal.in_gen-returns-clause-table
in_gen-returns-clause-table t c =
    c.undo.ensures
    ∙ (λ i. drop (length (c.in_ok-body.ensures.table i) - c.mark-outer.ensures i) (c.in_ok-body.ensures.table i))
    ∙ c.in_ok-forget_index.ensures.behind

pub in_with-returns-clause-swept : goal.in_with-returns-clause-swept
in_with-returns-clause-swept t c =
    let rest = c.loop-generator.generator-iterator.rest in
    let none = none_left rest.len rest.items c.in-None.ensures.steps.0 rest.ok.0 in
    with_swept (shapes_of c.args.called.now) (facts_of c.args.table.now) c.loop-generator.swept.items rest.items c.into_iter-generator-iterator.result.rest.items c.args.with c.with_loop.result
    c.loop-generator.invariant.items none c.into_iter-generator-iterator.ensures.into_iter_gives.0 c.with_loop.ensures.right

pub in_parted-returns-clause-swept : goal.in_parted-returns-clause-swept
in_parted-returns-clause-swept t c =
    let rest = c.loop-part.part-iterator.rest in
    let none = none_left rest.len rest.items c.in-None.ensures.steps.0 rest.ok.0 in
    parted_swept (shapes_of c.args.called.now) (facts_of c.args.table.now) c.loop-part.swept.items rest.items c.into_iter-part-iterator.result.rest.items c.args.parted c.parted_loop.result
    c.loop-part.invariant.items none c.into_iter-part-iterator.ensures.into_iter_gives.0 c.parted_loop.ensures.right
