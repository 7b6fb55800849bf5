use Rattle.std.proofs.Common.{rules, refl, sym, ap, ◌≡◌, ◌∙◌, ◌+◌, ◌&&◌, true, false, [], ◌∷◌, drop, map, None}
use Rattle.std.specs.Prelude.{option_map}
use Rattle.std.proofs.lemmas.List.{drop_more}
use Rattle.core_facts.specs.Facts.{common_facts, known_shape, parted_shape, shape_fact}
use Rattle.core_ir.specs.Scopes.{op_uses, parted_uses}
use Rattle.core_loops.specs.Indices.{Other}
use Rattle.core_uses.specs.Tests.{none_is}
use Rattle.counted_code.specs.declared.tree.CodeGen.{CodeGen}
use Rattle.counted_code.specs.declared.tree.CodePart.{CodePart}
use Rattle.counted_code.specs.declared.tree.CodeParted.{out-CodeParted}
use Rattle.counted_code.specs.declared.tree.CodeStep.{CodeStep}
use Rattle.counted_code.specs.declared.tree.CodeWith.{out-CodeWith}
use Rattle.counted_code.specs.Pieces.{code_gen_term, code_part_term}
use Rattle.counted_code.specs.Terms.{core_of_right}
use Rattle.counted_code.specs.View.{code_term, code_right_term, steps_before}
use Rattle.fact_table.specs.Table.{fact_of}
use Rattle.reuse_candidates.specs.Cells.{cell_mark, gen_is_own, in_gen, in_turn, is_own, known_if, known_in_cell, learned_in_cell, part_is_own, right_tells, seen, undone}
use Rattle.reuse_candidates.proofs.OwnEnds.{all_passed, gens_own, never, one_failed, parted_is, parts_own, with_is}
use Rattle.reuse_candidates.proofs.OwnRights.{if_first, if_known, loop_known, parted_known, with_known}
use Rattle.reuse_candidates.proofs.OwnTurns.{bound, cells_on, cells_stay, on_ok, own_stop, own_turn, some_is, unbound, whole_block}
use Rattle.reuse_candidates.proofs.own.+own.Goals as goal

-- ---- blocks

pub is_own-returns-clause-own : goal.is_own-returns-clause-own
is_own-returns-clause-own t c = c.is_some.ensures ∙ some_is _ _ _ c.in_ok-block_values.ensures.known

pub pass_steps-loop-step-init : goal.pass_steps-loop-step-init
pass_steps-loop-step-init t c = record {
  own = λ end. refl;
  behind = cells_stay c.args.scope.now;
}

pub pass_steps-loop-step-preserved : goal.pass_steps-loop-step-preserved
pass_steps-loop-step-preserved t c =
    let ss = c.args.steps.now in
    let i = c.loop-step.step-index in
    let x = c.step-item.result in
    let rest = drop (i + 1) ss in
    let new = c.in_ok-pass_step.ensures in
    let split : drop i ss ≡ x ∷ rest = drop_more ss i x c.loop-step-test.true ∙ ap (λ (y : CodeStep). y ∷ rest) (sym c.step-item.is) in
    record {
      own = λ end. own_turn c.args.search.now (known_in_cell c.loop-step.scope) (known_in_cell c.pass_step.new.scope) x (drop i ss) rest end _ _ split c.if-not-branch.false (new.own (steps_before rest end)) (c.loop-step.invariant.own end);
      behind = cells_on c.args.scope.now c.loop-step.scope c.pass_step.new.scope c.loop-step.invariant.behind new.behind;
    }

pub pass_steps-returns-then-not-branch : goal.pass_steps-returns-then-not-branch
pass_steps-returns-then-not-branch t c =
    let ss = c.args.steps.now in
    let i = c.loop-step.step-index in
    let x = c.step-item.result in
    let rest = drop (i + 1) ss in
    let new = c.in_ok-pass_step.ensures in
    let split : drop i ss ≡ x ∷ rest = drop_more ss i x c.loop-step-test.true ∙ ap (λ (y : CodeStep). y ∷ rest) (sym c.step-item.is) in
    record {
      own = λ end. own_stop c.args.search.now (known_in_cell c.loop-step.scope) (known_in_cell c.pass_step.new.scope) x (drop i ss) rest end _ _ split c.if-not-branch.true (new.own (steps_before rest end)) (c.loop-step.invariant.own end);
      behind = cells_on c.args.scope.now c.loop-step.scope c.pass_step.new.scope c.loop-step.invariant.behind new.behind;
    }

pub block_values-returns-clause-known : goal.block_values-returns-clause-known
block_values-returns-clause-known t c =
    whole_block c.args.search.now c.args.block.now (known_in_cell c.args.scope.now) (known_in_cell c.pass_steps.new.scope) c.deref.result.now c.deref-2.result.now c.in_ok-passed.passed _
    c.deref.ensures.value c.deref-2.ensures.value c.in_ok-passed.ensures.own c.in_ok-found.ensures

pub block_values-returns-clause-scope : goal.block_values-returns-clause-scope
block_values-returns-clause-scope t c = c.undo.ensures ∙ (λ i. undone (c.mark-before.ensures i) c.pass_steps.new.scope) ∙ c.in_ok-passed.ensures.behind

-- ---- bindings

pub pass_binding-returns-in_ok-learn-in-Some : goal.pass_binding-returns-in_ok-learn-in-Some
pass_binding-returns-in_ok-learn-in-Some t c =
    let s = c.args.search.now in
    let b = c.args.binding.now in
    let r = code_right_term b.right in
    let fs = map fact_of c.in-Some.values.items in
    let new = c.in_ok-learn-in-Some.ensures in
    let same = c.in_ok-values.ensures.scope in
    record {
      own = λ end. bound s (known_in_cell c.args.scope.now) (known_in_cell c.learn.new.self) b.targets.items b.site r end fs (ap seen (sym c.in-Some.is) ∙ c.in_ok-values.ensures.known)
          (new.learned ∙ (λ i. learned_in_cell s.axes (known_in_cell (same i)) b.targets.items (core_of_right r) fs));
      behind = (λ i. undone (cell_mark (sym same i)) c.learn.new.self) ∙ new.behind ∙ same;
    }

pub pass_binding-returns-in-None : goal.pass_binding-returns-in-None
pass_binding-returns-in-None t c =
    let b = c.args.binding.now in
    let same = c.in_ok-values.ensures.scope in
    record {
      own = λ end. unbound c.args.search.now (known_in_cell c.args.scope.now) b.targets.items b.site (code_right_term b.right) end (ap seen (sym c.in-None.is) ∙ c.in_ok-values.ensures.known);
      behind = (λ i. undone (cell_mark c.args.scope.now) (same i)) ∙ cells_stay c.args.scope.now;
    }

-- ---- generators and parts

pub is_own_gen-returns-clause-own : goal.is_own_gen-returns-clause-own
is_own_gen-returns-clause-own t c =
    let s = c.args.search.now in
    let g = code_gen_term c.args.generator.now in
    let k = known_in_cell c.args.scope.now in
    c.in_ok-own.ensures.own
    ∙ (λ i. is_own s g.body (c.in_ok-before.ensures.learned i))
    ∙ (λ i. (sym c.if-not-avoids_head.false ∙ c.avoids_head.ensures) i && is_own s g.body (in_gen k g.head))

pub is_own_part-returns-clause-own : goal.is_own_part-returns-clause-own
is_own_part-returns-clause-own t c = c.in_ok-own.ensures.own ∙ (λ i. is_own c.args.search.now (code_term c.args.part.now.body) (c.in_ok-before.ensures.learned i))

pub is_own_part-returns-clause-scope : goal.is_own_part-returns-clause-scope
is_own_part-returns-clause-scope t c = c.undo.ensures ∙ (λ i. undone c.in_ok-before.before (c.in_ok-own.ensures.scope i)) ∙ c.in_ok-before.ensures.behind

-- ---- right sides

pub right_values-returns-in_default-2-clause-known : goal.right_values-returns-in_default-2-clause-known
right_values-returns-in_default-2-clause-known t c =
    let none : c.in_ok-first-in-If.field-0 ≡ None = search rules in
    if_first c.args.search.now (known_in_cell c.args.scope.now) c.args.right.now c.in-If.cond c.in-If.yes c.in-If.no c.in-If.is (ap seen (sym none) ∙ c.in_ok-first-in-If.ensures.known)

pub right_values-returns-in_ok-second-in-If-clause-known : goal.right_values-returns-in_ok-second-in-If-clause-known
right_values-returns-in_ok-second-in-If-clause-known t c =
    let s = c.args.search.now in
    let k = known_in_cell c.args.scope.now in
    let r = c.args.right.now in
    let second = seen c.in_ok-second-in-If.second in
    let apart : none_is s.array (c.in-If.cond ∷ []) ≡ true = search rules in
    on_ok (λ found. seen found ≡ option_map (common_facts (map fact_of c.deref.result.now)) second) (λ found. seen found ≡ right_tells s (code_right_term r) k) c.common_values.result
    (λ found h. if_known s k r c.in-If.cond c.in-If.yes c.in-If.no _ (map fact_of c.in-Some.first.items) second (seen found) c.in-If.is apart (ap seen (sym c.in-Some.is) ∙ c.in_ok-first-in-If.ensures.known)
    (ap known_in_cell c.in_ok-first-in-If.ensures.scope) c.in_ok-second-in-If.ensures.known (h ∙ (λ i. option_map (common_facts (map fact_of (c.deref.ensures.value i))) second)))
    c.common_values.ensures

pub right_values-returns-in_ok-turned-in-Loop-clause-known : goal.right_values-returns-in_ok-turned-in-Loop-clause-known
right_values-returns-in_ok-turned-in-Loop-clause-known t c =
    let s = c.args.search.now in
    let k = known_in_cell c.args.scope.now in
    let apart : none_is s.array c.in-Loop.start.items ≡ true = search rules in
    loop_known s k c.args.right.now c.in-Loop.first_body c.in-Loop.start c.in-Loop.params c.in-Loop.test c.in-Loop.body c.in-Loop.test_site _ _ c.in_ok-tested-in-Loop.tested c.in_ok-turned-in-Loop.turned _ c.in-Loop.is apart
    (c.in_ok-before-in-Loop.ensures.learned ∙ (λ i. in_turn k (c.deref-in-Loop-2.ensures.value i))) (ap known_in_cell c.in_ok-tested-in-Loop.ensures.scope)
    c.in_ok-tested-in-Loop.ensures.own c.in_ok-turned-in-Loop.ensures.own c.turn_values.ensures

pub right_values-returns-in_ok-own-in-With-clause-known : goal.right_values-returns-in_ok-own-in-With-clause-known
right_values-returns-in_ok-own-in-With-clause-known t c =
    with_known c.args.search.now (known_in_cell c.args.scope.now) c.args.right.now c.in-With.with c.in_ok-own-in-With.own _ c.in-With.is c.in_ok-own-in-With.ensures.own c.nothing_if.ensures

pub right_values-returns-in_ok-own-in-Parted-clause-known : goal.right_values-returns-in_ok-own-in-Parted-clause-known
right_values-returns-in_ok-own-in-Parted-clause-known t c =
    let s = c.args.search.now in
    let k = known_in_cell c.args.scope.now in
    let p = c.in-Parted.parted in
    let own = c.in_ok-own-in-Parted.own in
    on_ok (λ found. seen found ≡ known_if own (shape_fact (known_shape (parted_shape (out-CodeParted p).frame (out-CodeParted p).cell (out-CodeParted p).op)) ∷ [])) (λ found. seen found ≡ right_tells s (code_right_term c.args.right.now) k) c.parted_values.result
    (λ found h. parted_known s k c.args.right.now p own (seen found) c.in-Parted.is c.in_ok-own-in-Parted.ensures.own h) c.parted_values.ensures

-- ---- with-loops

pub is_own_with-returns-then-not-avoids_all-clause-own : goal.is_own_with-returns-then-not-avoids_all-clause-own
is_own_with-returns-then-not-avoids_all-clause-own t c =
    let s = c.args.search.now in
    let k = known_in_cell c.args.scope.now in
    let gens = (out-CodeWith c.args.with.now).gens.items in
    with_is s k c.args.with.now gens false (gens_own s k gens) refl
    (sym c.if-not-avoids_all.true ∙ c.avoids_all.ensures ∙ (λ i. none_is s.array ((c.as_slice.ensures ∙ c.operands.ensures) i))) refl

pub is_own_with-returns-then-not-branch-clause-own : goal.is_own_with-returns-then-not-branch-clause-own
is_own_with-returns-then-not-branch-clause-own t c =
    let s = c.args.search.now in
    let k = known_in_cell c.args.scope.now in
    let free = none_is s.array (op_uses (out-CodeWith c.args.with.now).op) in
    let items = c.deref-generator-items.result.now in
    let i = c.loop-generator.generator-index in
    let x = c.generator-item.result in
    let rest = drop (i + 1) items in
    let before = c.loop-generator.invariant in
    let split : drop i items ≡ x ∷ rest = drop_more items i x c.loop-generator-test.true ∙ ap (λ (y : CodeGen). y ∷ rest) (sym c.generator-item.is) in
    let failed = sym c.if-not-branch.true ∙ c.in_ok-is_own_gen.ensures.own ∙ (λ j. gen_is_own s (code_gen_term x) (known_in_cell (before.same j))) in
    never free
    ∙ with_is s k c.args.with.now items free false c.deref-generator-items.ensures.value refl (sym (one_failed (λ g. gen_is_own s (code_gen_term g) k) (gens_own s k) (gens_own s k items) x (drop i items) rest (λ xs. refl) split failed before.own))

pub is_own_with-returns-clause-own : goal.is_own_with-returns-clause-own
is_own_with-returns-clause-own t c =
    let s = c.args.search.now in
    let k = known_in_cell c.args.scope.now in
    let items = c.deref-generator-items.result.now in
    with_is s k c.args.with.now items true true c.deref-generator-items.ensures.value
    (sym c.if-not-avoids_all.false ∙ c.avoids_all.ensures ∙ (λ i. none_is s.array ((c.as_slice.ensures ∙ c.operands.ensures) i)))
    (all_passed (λ g. gen_is_own s (code_gen_term g) k) (gens_own s k) (gens_own s k items) items c.loop-generator.generator-index refl c.loop-generator-test.false c.loop-generator.invariant.own)

-- ---- parted loops

pub is_own_parted-returns-then-not-avoids_all-clause-own : goal.is_own_parted-returns-then-not-avoids_all-clause-own
is_own_parted-returns-then-not-avoids_all-clause-own t c =
    let s = c.args.search.now in
    let k = known_in_cell c.args.scope.now in
    let parts = (out-CodeParted c.args.parted.now).parts.items in
    parted_is s k c.args.parted.now parts false (parts_own s k parts) refl
    (sym c.if-not-avoids_all.true ∙ c.avoids_all.ensures ∙ (λ i. none_is s.array ((c.as_slice.ensures ∙ c.operands.ensures) i))) refl

pub is_own_parted-returns-then-not-branch-clause-own : goal.is_own_parted-returns-then-not-branch-clause-own
is_own_parted-returns-then-not-branch-clause-own t c =
    let s = c.args.search.now in
    let k = known_in_cell c.args.scope.now in
    let free = none_is s.array (parted_uses (out-CodeParted c.args.parted.now).op) in
    let items = c.deref-part-items.result.now in
    let i = c.loop-part.part-index in
    let x = c.part-item.result in
    let rest = drop (i + 1) items in
    let before = c.loop-part.invariant in
    let split : drop i items ≡ x ∷ rest = drop_more items i x c.loop-part-test.true ∙ ap (λ (y : CodePart). y ∷ rest) (sym c.part-item.is) in
    let failed = sym c.if-not-branch.true ∙ c.in_ok-is_own_part.ensures.own ∙ (λ j. part_is_own s Other (code_part_term x) (known_in_cell (before.same j))) in
    never free
    ∙ parted_is s k c.args.parted.now items free false c.deref-part-items.ensures.value refl (sym (one_failed (λ p. part_is_own s Other (code_part_term p) k) (parts_own s k) (parts_own s k items) x (drop i items) rest (λ xs. refl) split failed before.own))

pub is_own_parted-returns-clause-own : goal.is_own_parted-returns-clause-own
is_own_parted-returns-clause-own t c =
    let s = c.args.search.now in
    let k = known_in_cell c.args.scope.now in
    let items = c.deref-part-items.result.now in
    parted_is s k c.args.parted.now items true true c.deref-part-items.ensures.value
    (sym c.if-not-avoids_all.false ∙ c.avoids_all.ensures ∙ (λ i. none_is s.array ((c.as_slice.ensures ∙ c.operands.ensures) i)))
    (all_passed (λ p. part_is_own s Other (code_part_term p) k) (parts_own s k) (parts_own s k items) items c.loop-part.part-index refl c.loop-part-test.false c.loop-part.invariant.own)
