use Rattle.std.proofs.Common.{rules, refl, sym, ap, ◌≡◌, ◌∙◌, ◌+◌, ◌-◌, ◌&&◌, true, false, Bool, List, ◌∷◌, drop, length, map, arith, Ok, None}
use Rattle.core_ir.specs.declared.tree.Let.{Let}
use Rattle.core_ir.specs.Terms.{BlockTerm}
use Rattle.core_ir.specs.View.{block_term, right_term}
use Rattle.core_facts.specs.Facts.{common_facts, note_all, block_facts, right_facts}
use Rattle.core_loops.specs.Indices.{is_scalar_shape, total_block, total_right}
use Rattle.fact_table.specs.Table.{fact_of, facts_of}
use Rattle.index_table.specs.Table.{indices_of}
use Rattle.plain_facts.specs.Called.{shapes_of}
use Rattle.std.proofs.lemmas.List.{drop_more}
use Rattle.total_cells.specs.Totals.{known_if, seen}
use Rattle.fact_table.proofs.scoped_table.Marks.{earlier_on, none_gone}
use Rattle.total_cells.proofs.WalkFacts.{total_turn, known_turn, block_known, block_unknown, is_known, is_unknown, choice_known, choice_unknown}
use Rattle.total_cells.proofs.walk.+total.Goals as goal
use Rattle.total_cells.proofs.walk.+total.Goals.{total_results-then-branch+in_ok-known_of, total_results-else-branch}

pub pass_bindings-loop-binding-init : goal.pass_bindings-loop-binding-init
pass_bindings-loop-binding-init t c = record {
  total = λ end. refl;
  known = λ end. refl;
  facts = none_gone c.args.facts.now;
  indices = none_gone c.args.indices.now;
}

pub pass_bindings-loop-binding-preserved : goal.pass_bindings-loop-binding-preserved
pass_bindings-loop-binding-preserved t c =
    let called = shapes_of c.args.called.now in
    let grid = c.args.grid.now in
    let bs = c.args.bindings.now in
    let i = c.loop-binding.binding-index in
    let x = c.binding-item.result in
    let v = c.loop-binding.invariant in
    let new = c.in_ok-pass_binding.ensures in
    let k = facts_of c.loop-binding.facts in
    let k' = facts_of c.pass_binding.new.facts in
    let m = indices_of c.loop-binding.indices in
    let m' = indices_of c.pass_binding.new.indices in
    let passed = ap Ok c.if-not-branch.false in
    let split : drop i bs ≡ x ∷ drop (i + 1) bs = drop_more bs i x c.loop-binding-test.true ∙ ap (λ (y : Let). y ∷ drop (i + 1) bs) (sym c.binding-item.is) in
    record {
      total = λ end. total_turn called grid k k' m m' x (drop i bs) (drop (i + 1) bs) end _ split (sym c.if-not-branch.false ∙ new.total) (new.known passed) (new.beside passed) (v.total end);
      known = λ end. known_turn called k k' x (drop i bs) (drop (i + 1) bs) end _ split (new.known passed) (v.known end);
      facts = earlier_on c.args.facts.now c.loop-binding.facts c.pass_binding.new.facts v.facts new.facts;
      indices = earlier_on c.args.indices.now c.loop-binding.indices c.pass_binding.new.indices v.indices new.indices;
    }

pub pass_binding-returns-in_ok-learn_all-in-Some-clause-known : goal.pass_binding-returns-in_ok-learn_all-in-Some-clause-known
pass_binding-returns-in_ok-learn_all-in-Some-clause-known t c q =
    let w = is_known _ _ _ (ap seen (sym c.in-Some.is) ∙ c.in_ok-values.ensures.known) in
    c.in_ok-learn_all-in-Some.ensures.noted
    ∙ (λ i. note_all (facts_of (c.in_ok-values.ensures.facts i)) (c.deref-in-Some.ensures.value i) (w.1 i))

pub total_results-returns-clause-known : goal.total_results-returns-clause-known
total_results-returns-clause-known t c =
    let called = shapes_of c.args.called.now in
    let grid = c.args.grid.now in
    let b = c.args.block.now in
    let k = facts_of c.args.facts.now in
    let k' = facts_of c.pass_bindings.new.facts in
    let m = indices_of c.args.indices.now in
    let m' = indices_of c.pass_bindings.new.indices in
    let lets = c.deref.result.now in
    let new = c.in_ok-pass_bindings.ensures in
    elim c.if-branch.branch [
      | total_results-then-branch+in_ok-known_of w ↦
          let passed = ap Ok w.if-branch.true in
          ap seen w.found-is
          ∙ block_known called grid b k k' m m' lets _ c.deref.ensures.value (λ end. new.total end ∙ (λ i. w.if-branch.true i && total_block called grid end k' m')) (new.known passed)
          (w.in_ok-known_of.ensures ∙ ap (map k') w.deref-then-branch.ensures.value)
      | total_results-else-branch w ↦
          ap seen w.found-is ∙ block_unknown called grid b k m lets c.deref.ensures.value (λ end. new.total end ∙ (λ i. w.if-branch.false i && total_block called grid end k' m'))
    ]

pub total_values-returns-in_default-3-clause-known : goal.total_values-returns-in_default-3-clause-known
total_values-returns-in_default-3-clause-known t c =
    let called = shapes_of c.args.called.now in
    let grid = c.args.grid.now in
    let k = facts_of c.args.facts.now in
    let m = indices_of c.args.indices.now in
    let none : c.in_ok-second-in-If.field-0 ≡ None = search rules in
    let r = ap right_term c.in-If.is in
    let off = is_unknown _ _ (ap seen (sym none) ∙ c.in_ok-second-in-If.ensures.known) in
    let second : total_block called grid (block_term c.in-If.no) k m ≡ false =
    (λ i. total_block called grid (block_term c.in-If.no) (facts_of (sym c.in_ok-first-in-If.ensures.facts i)) (indices_of (sym c.in_ok-first-in-If.ensures.indices i))) ∙ off in
    choice_unknown (is_scalar_shape (k c.in-If.cond).shape) (total_block called grid (block_term c.in-If.yes) k m) (total_block called grid (block_term c.in-If.no) k m) _ second
    ∙ (λ i. known_if (total_right called grid (sym r i) k m) (right_facts called (sym r i) k))

pub total_values-returns-in_ok-common_facts-in-If-clause-known : goal.total_values-returns-in_ok-common_facts-in-If-clause-known
total_values-returns-in_ok-common_facts-in-If-clause-known t c =
    let called = shapes_of c.args.called.now in
    let grid = c.args.grid.now in
    let k = facts_of c.args.facts.now in
    let m = indices_of c.args.indices.now in
    let yes = block_term c.in-If.yes in
    let no-block = block_term c.in-If.no in
    let r = ap right_term c.in-If.is in
    let scalar : is_scalar_shape (k c.in-If.cond).shape ≡ true = search rules in
    let first = is_known _ _ _ (ap seen (sym c.in-Some.is) ∙ c.in_ok-first-in-If.ensures.known) in
    let other = is_known _ _ _ (ap seen (sym c.in-Some-2.is) ∙ c.in_ok-second-in-If.ensures.known) in
    let facts = c.in_ok-first-in-If.ensures.facts in
    let indices = c.in_ok-first-in-If.ensures.indices in
    let second : total_block called grid no-block k m ≡ true = (λ i. total_block called grid no-block (facts_of (sym facts i)) (indices_of (sym indices i))) ∙ other.0 in
    let known : map fact_of c.in-Some-2.second.items ≡ block_facts called no-block k = other.1 ∙ (λ i. block_facts called no-block (facts_of (facts i))) in
    choice_known _ _ _ _ _ scalar first.0 second
    (c.in_ok-common_facts-in-If.ensures
    ∙ (λ i. common_facts (map fact_of (c.deref.ensures.value i)) (map fact_of (c.deref-in-If.ensures.value i)))
    ∙ (λ i. common_facts (first.1 i) (known i)))
    ∙ (λ i. known_if (total_right called grid (sym r i) k m) (right_facts called (sym r i) k))
