use Rattle.std.proofs.Common.{◌≡◌, ◌∙◌, ◌-◌, ◌++◌, ap, sym, subst, length, map, List, arith}
use Rattle.std.specs.Prelude.{drop}
use Rattle.core_ir.specs.View.{gen_term, part_term}
use Rattle.core_facts.specs.Facts.{note_all}
use Rattle.fact_table.specs.Notes.{Note}
use Rattle.fact_table.specs.Table.{facts_of}
use Rattle.plain_facts.specs.Called.{shapes_of}
use Rattle.known_calls.specs.Told.{told, known_gen, known_part}
use Rattle.known_calls.proofs.Finding.{let_turn, facts_turn, gen_turn, part_turn, lets_end, known_end, gens_end, parts_end, drop_over, on_ok}
use Rattle.fact_table.proofs.scoped_table.Marks.{earlier_on}
use Rattle.known_calls.proofs.walk.+finding.Goals as goal

pub find_in_block-loop-binding-preserved : goal.find_in_block-loop-binding-preserved
find_in_block-loop-binding-preserved t c =
    let v = c.loop-binding.invariant in
    let called = shapes_of c.args.called.now in
    let ls = c.deref-binding-items.result.now in
    let i = c.loop-binding.binding-index in
    let l = c.binding-item.result in
    let table = c.loop-binding.table in
    let now = c.learn_all.new.facts in
    let new = c.in_ok-values.ensures in
    let noted = c.in_ok-learn_all.ensures.noted ∙ (λ j. note_all (facts_of (new.table j)) (c.deref.ensures.value j) (new.known j)) in
    let behind = subst (λ (x : List Note). drop (length now - length x) now ≡ x) new.table c.in_ok-learn_all.ensures.behind in
    record {
      calls = λ end. let_turn called ls i l (facts_of table) (facts_of now) (told c.loop-binding.calls.items) (told c.find_in_right.new.calls.items) _ end (omega arith) c.binding-item.is (v.calls end) new.calls noted;
      facts = λ end. facts_turn called ls i l (facts_of table) (facts_of now) _ end (omega arith) c.binding-item.is (v.facts end) noted;
      earlier = ap (λ n. drop (length now - n) now) c.mark-before.ensures
          ∙ earlier_on c.args.table.now table now (ap (λ n. drop (length table - n) table) (sym c.mark-before.ensures) ∙ v.earlier) behind;
    }

pub find_in_block-returns-clause-calls : goal.find_in_block-returns-clause-calls
find_in_block-returns-clause-calls t c =
    lets_end (shapes_of c.args.called.now) c.args.block.now _ c.deref-binding-items.result.now (facts_of c.args.table.now) (facts_of c.loop-binding.table) (told c.loop-binding.calls.items) (told c.args.calls.now.items)
    c.loop-binding.invariant.calls (drop_over c.deref-binding-items.result.now c.loop-binding.binding-index c.loop-binding-test.false) c.deref-binding-items.ensures.value

pub find_in_block-returns-clause-known : goal.find_in_block-returns-clause-known
find_in_block-returns-clause-known t c =
    known_end (shapes_of c.args.called.now) c.args.block.now _ c.deref-binding-items.result.now (facts_of c.args.table.now) (facts_of c.loop-binding.table) _
    c.loop-binding.invariant.facts (drop_over c.deref-binding-items.result.now c.loop-binding.binding-index c.loop-binding-test.false) c.deref-binding-items.ensures.value
    (c.in_ok-known.ensures ∙ ap (map (facts_of c.loop-binding.table)) c.deref-2.ensures.value)

pub find_in_block-returns-clause-table : goal.find_in_block-returns-clause-table
find_in_block-returns-clause-table t c = c.undo.ensures ∙ c.loop-binding.invariant.earlier

pub find_in_with-loop-generator-preserved : goal.find_in_with-loop-generator-preserved
find_in_with-loop-generator-preserved t c =
    let v = c.loop-generator.invariant in
    let called = shapes_of c.args.called.now in
    let g = c.generator-item.result in
    let old = told c.loop-generator.calls.items in
    record {
      calls = gen_turn called c.deref-generator-items.result.now c.loop-generator.generator-index g (facts_of c.args.table.now) old (told c.find_in_gen.new.calls.items) _ (omega arith) c.generator-item.is v.calls
          (c.in_ok-find_in_gen.ensures.calls ∙ ap (λ x. old ++ known_gen called (gen_term g) (facts_of x)) v.table);
      table = c.in_ok-find_in_gen.ensures.table ∙ v.table;
    }

pub find_in_with-returns-clause-calls : goal.find_in_with-returns-clause-calls
find_in_with-returns-clause-calls t c =
    gens_end (shapes_of c.args.called.now) c.args.with.now _ c.deref-generator-items.result.now (facts_of c.args.table.now) (told c.loop-generator.calls.items) (told c.args.calls.now.items)
    c.loop-generator.invariant.calls (drop_over c.deref-generator-items.result.now c.loop-generator.generator-index c.loop-generator-test.false) c.deref-generator-items.ensures.value

pub find_in_parted-loop-part-preserved : goal.find_in_parted-loop-part-preserved
find_in_parted-loop-part-preserved t c =
    let v = c.loop-part.invariant in
    let called = shapes_of c.args.called.now in
    let g = c.part-item.result in
    let old = told c.loop-part.calls.items in
    record {
      calls = part_turn called c.deref-part-items.result.now c.loop-part.part-index g (facts_of c.args.table.now) old (told c.find_in_part.new.calls.items) _ (omega arith) c.part-item.is v.calls
          (c.in_ok-find_in_part.ensures.calls ∙ ap (λ x. old ++ known_part called (part_term g) (facts_of x)) v.table);
      table = c.in_ok-find_in_part.ensures.table ∙ v.table;
    }

pub find_in_parted-returns-clause-calls : goal.find_in_parted-returns-clause-calls
find_in_parted-returns-clause-calls t c =
    on_ok c.one.result
    (parts_end (shapes_of c.args.called.now) c.args.parted.now _ c.deref-part-items.result.now (facts_of c.args.table.now) (told c.loop-part.calls.items) (told c.args.calls.now.items)
    c.loop-part.invariant.calls (drop_over c.deref-part-items.result.now c.loop-part.part-index c.loop-part-test.false) c.deref-part-items.ensures.value)
