use Rattle.std.proofs.Common.{rules, refl, sym, ap, ◌≡◌, ◌∙◌, ◌+◌, ◌&&◌, true, [], ◌∷◌, ◌++◌, drop, map, Ok, None}
use Rattle.core_ir.specs.declared.tree.Let.{Let}
use Rattle.core_ir.specs.View.{block_term, right_term}
use Rattle.core_facts.specs.Facts.{common_facts, note_all, block_facts, right_facts}
use Rattle.core_loops.specs.Indices.{learn_index, note_others}
use Rattle.core_loops.specs.Pairs.{offsets, offsets_right}
use Rattle.core_uses.specs.Tests.{none_is}
use Rattle.fact_table.specs.Table.{fact_of, facts_of}
use Rattle.index_table.specs.Table.{indices_of}
use Rattle.plain_facts.specs.Called.{shapes_of}
use Rattle.std.specs.Option.{is_some}
use Rattle.std.proofs.lemmas.List.{drop_more}
use Rattle.total_cells.specs.loop_selections.Selecting.{is_selecting, is_selecting_right, turns_select}
use Rattle.total_cells.specs.loop_selections.Told.{known_if, seen, told}
use Rattle.total_cells.proofs.loop_selections.Notes.{earlier_on, none_gone}
use Rattle.total_cells.proofs.loop_selections.Turns.{select_turn, known_turn, found_turn, block_values, block_found, passed_some, two_found, some_is, loop_learns, is_known, is_unknown, choice_known, choice_unknown, ok_is, both_is}
use Rattle.total_cells.proofs.loop_selections.walk.+selecting.Goals as goal
use Rattle.total_cells.proofs.loop_selections.walk.+selecting.Goals.{in_turns-then-is_some, in_turns-else-is_some}

pub pass_bindings-loop-binding-init : goal.pass_bindings-loop-binding-init
pass_bindings-loop-binding-init t c = record {
  selects = λ end. refl;
  known = λ end. refl;
  found = λ end. refl;
  facts = none_gone c.args.facts.now;
  indices = none_gone c.args.indices.now;
}

pub pass_bindings-loop-binding-preserved : goal.pass_bindings-loop-binding-preserved
pass_bindings-loop-binding-preserved t c =
    let called = shapes_of c.args.called.now in
    let p = c.args.sought.producer in
    let n = c.args.sought.axes in
    let bs = c.args.bindings.now in
    let i = c.loop-binding.binding-index in
    let x = c.binding-item.result in
    let v = c.loop-binding.invariant in
    let new = c.in_ok-pass_binding.ensures in
    let k = facts_of c.loop-binding.facts in
    let k' = facts_of c.pass_binding.new.facts in
    let m = indices_of c.loop-binding.indices in
    let m' = indices_of c.pass_binding.new.indices in
    let passed = ap Ok c.if-not-branch.false in
    let split : drop i bs ≡ x ∷ drop (i + 1) bs = drop_more bs i x c.loop-binding-test.true ∙ ap (λ (y : Let). y ∷ drop (i + 1) bs) (sym c.binding-item.is) in
    record {
      selects = λ end. select_turn p x (drop i bs) (drop (i + 1) bs) end _ split (sym c.if-not-branch.false ∙ new.selects) (v.selects end);
      known = λ end. known_turn called k k' x (drop i bs) (drop (i + 1) bs) end _ split (new.known passed) (v.known end);
      found = λ end. found_turn called p n k k' m m' x (drop i bs) (drop (i + 1) bs) end (told c.loop-binding.found.items) (told c.pass_binding.new.found.items) _ split (new.known passed) (new.beside passed) (new.found passed) (v.found end);
      facts = earlier_on c.args.facts.now c.loop-binding.facts c.pass_binding.new.facts v.facts new.facts;
      indices = earlier_on c.args.indices.now c.loop-binding.indices c.pass_binding.new.indices v.indices new.indices;
    }

pub pass_binding-returns-in_ok-learn_all-in-Some-clause-known : goal.pass_binding-returns-in_ok-learn_all-in-Some-clause-known
pass_binding-returns-in_ok-learn_all-in-Some-clause-known t c q =
    let w = is_known _ _ _ (ap seen (sym c.in-Some.is) ∙ c.in_ok-values.ensures.known) in
    c.in_ok-learn_all-in-Some.ensures.noted
    ∙ (λ i. note_all (facts_of (c.in_ok-values.ensures.facts i)) (c.deref-in-Some.ensures.value i) (w.1 i))

pub selections-returns-clause-known : goal.selections-returns-clause-known
selections-returns-clause-known t c =
    let new = c.in_ok-passed.ensures in
    block_values (shapes_of c.args.called.now) c.args.sought.producer c.args.block.now (facts_of c.args.facts.now) (facts_of c.pass_bindings.new.facts) c.deref.result.now c.deref-2.result.now
    c.in_ok-passed.passed _ c.deref.ensures.value c.deref-2.ensures.value new.selects (λ e. new.known (ap Ok e)) c.in_ok-values.ensures

pub selections-returns-clause-found : goal.selections-returns-clause-found
selections-returns-clause-found t c some =
    let new = c.in_ok-passed.ensures in
    let passed = passed_some c.in_ok-values.values c.in_ok-passed.passed _ _ c.in_ok-values.ensures some in
    block_found (shapes_of c.args.called.now) c.args.sought.producer c.args.sought.axes c.args.block.now (facts_of c.args.facts.now) (facts_of c.pass_bindings.new.facts)
    (indices_of c.args.indices.now) (indices_of c.pass_bindings.new.indices) c.deref.result.now (told c.args.found.now.items) (told c.pass_bindings.new.found.items) c.deref.ensures.value
    (new.found (ap Ok passed))

pub right_values-returns-in_default-3-clause-known : goal.right_values-returns-in_default-3-clause-known
right_values-returns-in_default-3-clause-known t c =
    let called = shapes_of c.args.called.now in
    let p = c.args.sought.producer in
    let k = facts_of c.args.facts.now in
    let none : c.in_ok-second-in-If.field-0 ≡ None = search rules in
    let r = ap right_term c.in-If.is in
    let off = is_unknown _ _ (ap seen (sym none) ∙ c.in_ok-second-in-If.ensures.known) in
    choice_unknown (none_is p (c.in-If.cond ∷ [])) (is_selecting p (block_term c.in-If.yes)) (is_selecting p (block_term c.in-If.no)) _ off
    ∙ (λ i. known_if (is_selecting_right p (sym r i)) (right_facts called (sym r i) k))

pub right_values-returns-in_ok-common_facts-in-If-clause-known : goal.right_values-returns-in_ok-common_facts-in-If-clause-known
right_values-returns-in_ok-common_facts-in-If-clause-known t c =
    let called = shapes_of c.args.called.now in
    let p = c.args.sought.producer in
    let k = facts_of c.args.facts.now in
    let no-block = block_term c.in-If.no in
    let r = ap right_term c.in-If.is in
    let apart : none_is p (c.in-If.cond ∷ []) ≡ true = search rules in
    let first = is_known _ _ _ (ap seen (sym c.in-Some.is) ∙ c.in_ok-first-in-If.ensures.known) in
    let other = is_known _ _ _ (ap seen (sym c.in-Some-2.is) ∙ c.in_ok-second-in-If.ensures.known) in
    let facts = c.in_ok-first-in-If.ensures.facts in
    let known : map fact_of c.in-Some-2.second.items ≡ block_facts called no-block k = other.1 ∙ (λ i. block_facts called no-block (facts_of (facts i))) in
    choice_known _ _ _ _ _ apart first.0 other.0
    (c.in_ok-common_facts-in-If.ensures
    ∙ (λ i. common_facts (map fact_of (c.deref.ensures.value i)) (map fact_of (c.deref-in-If.ensures.value i)))
    ∙ (λ i. common_facts (first.1 i) (known i)))
    ∙ (λ i. known_if (is_selecting_right p (sym r i)) (right_facts called (sym r i) k))

pub right_values-returns-in_ok-common_facts-in-If-clause-found : goal.right_values-returns-in_ok-common_facts-in-If-clause-found
right_values-returns-in_ok-common_facts-in-If-clause-found t c some =
    let called = shapes_of c.args.called.now in
    let p = c.args.sought.producer in
    let n = c.args.sought.axes in
    let k = facts_of c.args.facts.now in
    let m = indices_of c.args.indices.now in
    let r = ap right_term c.in-If.is in
    let one = c.in_ok-first-in-If.ensures.found (ap is_some c.in-Some.is) in
    let two = c.in_ok-second-in-If.ensures.found (ap is_some c.in-Some-2.is) in
    let facts = c.in_ok-first-in-If.ensures.facts in
    let indices = c.in_ok-first-in-If.ensures.indices in
    two_found (told c.args.found.now.items) (offsets called p n (block_term c.in-If.yes) k m) (offsets called p n (block_term c.in-If.no) k m) one two
    (λ i. offsets called p n (block_term c.in-If.no) (facts_of (facts i)) (indices_of (indices i)))
    ∙ (λ i. told c.args.found.now.items ++ offsets_right called p n (sym r i) k m)

pub in_turns-returns-clause-selects : goal.in_turns-returns-clause-selects
in_turns-returns-clause-selects t c =
    let p = c.args.sought.producer in
    let first = some_is _ _ _ c.in_ok-tested.ensures.known in
    let other = some_is _ _ _ c.in_ok-turned.ensures.known in
    let both : c.if-is_some.result ≡ (is_some c.in_ok-tested.tested && is_some c.in_ok-turned.turned) = elim c.if-is_some.branch [
      | in_turns-then-is_some w ↦ w.result-is ∙ w.is_some-then-is_some.ensures ∙ (λ i. sym (sym c.is_some.ensures ∙ w.if-is_some.true) i && is_some c.in_ok-turned.turned)
      | in_turns-else-is_some w ↦ w.result-is ∙ w.if-is_some.false ∙ (λ i. sym (sym c.is_some.ensures ∙ w.if-is_some.false) i && is_some c.in_ok-turned.turned)
    ] in
    both ∙ (λ i. first i && other i) ∙ (λ i. turns_select p (sym (ap right_term c.in-Loop.is) i))

pub in_turns-returns-clause-found : goal.in_turns-returns-clause-found
in_turns-returns-clause-found t c passed =
    let called = shapes_of c.args.called.now in
    let p = c.args.sought.producer in
    let n = c.args.sought.axes in
    let k = facts_of c.args.facts.now in
    let m = indices_of c.args.indices.now in
    let ps = c.in-Loop.params.items in
    let test = block_term c.in-Loop.test in
    let body = block_term c.in-Loop.body in
    let f0 = told c.args.found.now.items in
    let r = ap right_term c.in-Loop.is in
    let both : c.if-is_some.result ≡ (is_some c.in_ok-tested.tested && is_some c.in_ok-turned.turned) = elim c.if-is_some.branch [
      | in_turns-then-is_some w ↦ w.result-is ∙ w.is_some-then-is_some.ensures ∙ (λ i. sym (sym c.is_some.ensures ∙ w.if-is_some.true) i && is_some c.in_ok-turned.turned)
      | in_turns-else-is_some w ↦ w.result-is ∙ w.if-is_some.false ∙ (λ i. sym (sym c.is_some.ensures ∙ w.if-is_some.false) i && is_some c.in_ok-turned.turned)
    ] in
    let some = both_is (is_some c.in_ok-tested.tested) (is_some c.in_ok-turned.turned) (sym both ∙ ok_is c.if-is_some.result true passed) in
    let facts : facts_of c.learn_all.new.facts ≡ note_all k ps [] =
    c.in_ok-learn_all.ensures.noted ∙ (λ i. note_all k (c.deref-2.ensures.value i) (map fact_of (c.new.ensures.items i))) in
    let indices : indices_of c.learn_relation.new.indices ≡ note_others m ps =
    c.in_ok-learn_relation.ensures.learned
    ∙ (λ i. learn_index n m (c.deref.ensures.value i) (r i) k)
    ∙ loop_learns n m ps c.in-Loop.first_body c.in-Loop.start.items ps test body c.in-Loop.test_site k in
    let one = c.in_ok-tested.ensures.found some.0 in
    let two = c.in_ok-turned.ensures.found some.1 in
    two_found f0 (offsets called p n test (note_all k ps []) (note_others m ps)) (offsets called p n body (note_all k ps []) (note_others m ps))
    (one ∙ (λ i. f0 ++ offsets called p n test (facts i) (indices i))) two
    (λ i. offsets called p n body ((ap facts_of c.in_ok-tested.ensures.facts ∙ facts) i) ((ap indices_of c.in_ok-tested.ensures.indices ∙ indices) i))
    ∙ (λ i. f0 ++ offsets_right called p n (sym r i) k m)
