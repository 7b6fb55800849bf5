use Rattle.std.proofs.Common.{refl, sym, ap, ◌≡◌, ◌∙◌, ◌+◌, ◌-◌, ◌∷◌, drop, length, take, arith}
use Rattle.std.proofs.lemmas.List.{drop_more, take_rest}
use Rattle.counted_code.specs.Terms.{Binding, Giving}
use Rattle.counted_code.specs.View.{code_right_term, step_term, steps_before}
use Rattle.counted_marks.specs.Known.{in_loop}
use Rattle.counted_marks.specs.Marking.{marking, marking_right, with_mark}
use Rattle.reuse_candidates.specs.Calls.{given_by}
use Rattle.reuse_candidates.specs.Scopes.{known_in, told}
use Rattle.buffer_reuse.specs.Marked.{made_with}
use Rattle.buffer_reuse.proofs.MarkArms.{if_marked, if_told, loop_marked, with_known, with_marked, parted_known, parted_marked}
use Rattle.buffer_reuse.proofs.MarkTurns.{block_marked, bound, kept, pushed, scope_stays, scopes_on, told_turn, turn}
use Rattle.buffer_reuse.proofs.walk.+marks.Goals as goal

-- ---- blocks

pub mark_block-loop-i-init : goal.mark_block-loop-i-init
mark_block-loop-i-init t c = record {
  marked = λ results i. steps_before (c.new.ensures.items i) (marking (given_by c.args.calls.now) (steps_before c.args.block.now.steps.items (Giving results)) (known_in c.args.scope.now));
  known = λ end. refl;
  behind = scope_stays c.args.scope.now;
}

pub mark_block-loop-i-preserved : goal.mark_block-loop-i-preserved
mark_block-loop-i-preserved t c =
    let g = given_by c.args.calls.now in
    let ls = c.as_slice-steps.result.now in
    let same : ls ≡ c.args.block.now.steps.items = c.as_slice-steps.ensures.value in
    let i = c.loop-i.i in
    let x = c.index-steps-i.result in
    let k = known_in c.loop-i.scope in
    let k' = known_in c.mark_step.new.scope in
    let before = c.loop-i.invariant in
    let new = c.in_ok-mark_step.ensures in
    let ss = c.args.block.now.steps.items in
    let later = take (length ls - (i + 1)) (drop (i + 1) ls) in
    let rest : drop (i + 1) ss ≡ later = ap (drop (i + 1)) (sym same) ∙ sym (take_rest ls (i + 1)) in
    let split : drop i ss ≡ x ∷ later = ap (drop i) (sym same) ∙ drop_more ls i x c.loop-i-test.true ∙ (λ j. sym c.index-steps-i.is j ∷ sym (take_rest ls (i + 1)) j) in
    record {
      marked = λ results. turn g k k' c.loop-i.made c.mark_step.new.made x (drop i ss) later (drop (i + 1) ss) results _ split rest (new.marked results) (before.marked results);
      known = λ end. told_turn g k k' x (drop i ss) later (drop (i + 1) ss) end _ split rest (new.known (steps_before later end)) (before.known end);
      behind = scopes_on c.args.scope.now c.loop-i.scope c.mark_step.new.scope before.behind new.behind;
    }

pub mark_block-returns-clause-marked : goal.mark_block-returns-clause-marked
mark_block-returns-clause-marked t c =
    block_marked (given_by c.args.calls.now) (known_in c.args.scope.now) (known_in c.loop-i.scope) c.args.block.now c.loop-i.made c.in_ok-copy_vars.field-0.items c.loop-i.i c.loop-i.invariant.marked (omega (arith, ap length c.as_slice-steps.ensures.value))
    (c.in_ok-copy_vars.ensures ∙ c.deref-2.ensures.value)

-- ---- steps

pub mark_step-returns-in_ok-mark_binding-in-Bind-clause-marked : goal.mark_step-returns-in_ok-mark_binding-in-Bind-clause-marked
mark_step-returns-in_ok-mark_binding-in-Bind-clause-marked t c results =
    let g = given_by c.args.calls.now in
    let b = c.in-Bind.binding in
    let new = c.in_ok-mark_binding-in-Bind.ensures in
    bound g (known_in c.args.scope.now) (known_in c.mark_binding.new.scope) c.args.made.now c.mark_binding.new.made b.targets.items b.site (code_right_term b.right) c.args.later.now new.marked new.chosen new.learned results
    ∙ (λ i. made_with g c.args.made.now (known_in c.args.scope.now) (step_term (sym c.in-Bind.is i) (steps_before c.args.later.now (Giving results))))

pub mark_step-returns-in_ok-push-in-Keep-clause-marked : goal.mark_step-returns-in_ok-push-in-Keep-clause-marked
mark_step-returns-in_ok-push-in-Keep-clause-marked t c results =
    let g = given_by c.args.calls.now in
    let k = known_in c.args.scope.now in
    let rest = steps_before c.args.later.now (Giving results) in
    kept g k c.args.made.now c.push.new.self.items c.in-Keep.x rest c.in_ok-push-in-Keep.ensures.items
    ∙ (λ i. made_with g c.args.made.now k (step_term (sym c.in-Keep.is i) rest))

pub mark_binding-returns-clause-marked : goal.mark_binding-returns-clause-marked
mark_binding-returns-clause-marked t c rest =
    let g = given_by c.args.calls.now in
    let r = code_right_term c.args.binding.now.right in
    let right = c.with_taken.ensures
    ∙ (λ i. with_mark c.in_ok-taken.taken (c.in_ok-marked.ensures.marked i))
    ∙ (λ i. with_mark c.in_ok-taken.taken (marking_right g r (known_in (c.in_ok-taken.ensures.scope i)))) in
    let targets = c.in_ok-copy_vars.ensures ∙ c.deref-3.ensures.value in
    pushed c.args.made.now.steps.items c.push.new.self.items _ rest c.in_ok-push.ensures.items
    ∙ (λ i. steps_before c.args.made.now.steps.items (Binding (targets i) c.args.binding.now.site (right i) rest))

-- ---- right sides

pub mark_right-returns-in_ok-either_values-in-If-clause-marked : goal.mark_right-returns-in_ok-either_values-in-If-clause-marked
mark_right-returns-in_ok-either_values-in-If-clause-marked t c =
    if_marked (given_by c.args.calls.now) (known_in c.args.scope.now) c.args.right.now c.in-If.cond c.in-If.yes c.in-If.no c.in_ok-first-in-If.first.block c.in_ok-second-in-If.second.block
    (known_in c.mark_block.new.scope) c.in-If.is (ap known_in c.in_ok-first-in-If.ensures.scope) c.in_ok-first-in-If.ensures.marked c.in_ok-second-in-If.ensures.marked

pub mark_right-returns-in_ok-either_values-in-If-clause-known : goal.mark_right-returns-in_ok-either_values-in-If-clause-known
mark_right-returns-in_ok-either_values-in-If-clause-known t c =
    if_told (given_by c.args.calls.now) (known_in c.args.scope.now) c.args.right.now c.in-If.cond c.in-If.yes c.in-If.no (known_in c.mark_block.new.scope)
    (told c.in_ok-first-in-If.first.values) (told c.in_ok-second-in-If.second.values) (told c.in_ok-either_values-in-If.field-0) c.in-If.is (ap known_in c.in_ok-first-in-If.ensures.scope)
    c.in_ok-either_values-in-If.ensures c.in_ok-first-in-If.ensures.known c.in_ok-second-in-If.ensures.known

pub mark_right-returns-in_ok-copy_vars-in-Loop-2-clause-marked : goal.mark_right-returns-in_ok-copy_vars-in-Loop-2-clause-marked
mark_right-returns-in_ok-copy_vars-in-Loop-2-clause-marked t c =
    let k = known_in c.args.scope.now in
    loop_marked (given_by c.args.calls.now) k c.args.right.now c.in-Loop.first_body c.in-Loop.start c.in-Loop.params c.in_ok-copy_vars-in-Loop.field-0 c.in_ok-copy_vars-in-Loop-2.field-0
    c.in-Loop.test c.in-Loop.body c.in_ok-tested-in-Loop.tested.block c.in_ok-turned-in-Loop.turned.block c.in-Loop.test_site
    (known_in c.enter_loop.new.self) (known_in c.mark_block-in-Loop.new.scope) c.in-Loop.is
    (c.in_ok-copy_vars-in-Loop.ensures ∙ c.deref-in-Loop-3.ensures.value) (c.in_ok-copy_vars-in-Loop-2.ensures ∙ c.deref-in-Loop-4.ensures.value)
    (c.in_ok-enter_loop-in-Loop.ensures.learned ∙ (λ i. in_loop k (c.deref-in-Loop.ensures.value i) (c.deref-in-Loop-2.ensures.value i)))
    (ap known_in c.in_ok-tested-in-Loop.ensures.scope) c.in_ok-tested-in-Loop.ensures.marked c.in_ok-turned-in-Loop.ensures.marked

pub mark_right-returns-in_ok-mark_with-in-With-clause-known : goal.mark_right-returns-in_ok-mark_with-in-With-clause-known
mark_right-returns-in_ok-mark_with-in-With-clause-known t c =
    with_known (given_by c.args.calls.now) (known_in c.args.scope.now) c.args.right.now c.in-With.with (told c.in_ok-with_values-in-With.field-0) c.in-With.is c.in_ok-with_values-in-With.ensures

pub mark_right-returns-in_ok-mark_parted-in-Parted-clause-known : goal.mark_right-returns-in_ok-mark_parted-in-Parted-clause-known
mark_right-returns-in_ok-mark_parted-in-Parted-clause-known t c =
    parted_known (given_by c.args.calls.now) (known_in c.args.scope.now) c.args.right.now c.in-Parted.parted (told c.in_ok-parted_values-in-Parted.field-0) c.in-Parted.is c.in_ok-parted_values-in-Parted.ensures

-- ---- with-loops and parted loops

pub mark_with-returns-clause-marked : goal.mark_with-returns-clause-marked
mark_with-returns-clause-marked t c =
    with_marked (given_by c.args.calls.now) (known_in c.args.scope.now) _ c.args.with.now c.deref-generator-items.result.now c.loop-generator.generator-index refl c.loop-generator.invariant.marked (omega arith)
    c.deref-generator-items.ensures.value

pub mark_parted-returns-clause-marked : goal.mark_parted-returns-clause-marked
mark_parted-returns-clause-marked t c =
    parted_marked (given_by c.args.calls.now) (known_in c.args.scope.now) _ c.args.parted.now c.deref-part-items.result.now c.loop-part.part-index c.in_ok-frame.ensures refl c.copy-cell.ensures refl refl
    c.loop-part.invariant.marked (omega arith) c.deref-part-items.ensures.value
