use Rattle.std.proofs.Common.{◌+◌, [], ◌∷◌, ap, map, refl, arith}
use Rattle.core_ir.specs.Terms.{LetTerm}
use Rattle.core_ir.specs.View.{let_term, part_term, right_term}
use Rattle.parted_bodies.specs.declared.names.Progress.{Progress}
use Rattle.folded_parts.specs.Folding.{stays, taken}
use Rattle.folded_parts.proofs.Turns.{going_first, going_on, block_folded, let_kept, let_taken, if_folded, loop_folded, none_left, taken_at, is_whole}
use Rattle.folded_parts.proofs.folding.+folding.Goals as goal

pub fold_block-loop-binding-init : goal.fold_block-loop-binding-init
fold_block-loop-binding-init t c =
    let s = c.args.source.now in
    going_first s.producer (map part_term s.parts.now) s.holders.now c.args.passed.now c.args.progress.now.next c.into_iter-binding-iterator.result.rest.items _ c.new-folded.ensures.items

pub fold_block-loop-binding-preserved : goal.fold_block-loop-binding-preserved
fold_block-loop-binding-preserved t c =
    let s = c.args.source.now in
    let e = c.in_ok-fold_binding.ensures in
    going_on s.producer (map part_term s.parts.now) s.holders.now c.args.passed.now c.args.progress.now.next c.loop-binding.passed c.loop-binding.progress.next c.fold_binding.new.passed c.fold_binding.new.progress.next _
    c.loop-binding.folded.items c.fold_binding.new.folded.items c.loop-binding.binding-iterator.rest.items c.next.new.self.rest.items c.in-Some.binding e.0 c.loop-binding.invariant c.in-Some.ensures.steps.0 e.1.0 e.1.1

pub fold_block-returns : goal.fold_block-returns
fold_block-returns t c =
    let s = c.args.source.now in
    let none = none_left c.loop-binding.binding-iterator.rest.len c.loop-binding.binding-iterator.rest.items c.in-None.ensures.steps.0 c.loop-binding.binding-iterator.rest.ok.0 in
    block_folded s.producer (map part_term s.parts.now) s.holders.now c.args.passed.now c.args.progress.now.next c.loop-binding.passed c.loop-binding.progress.next _ _ c.loop-binding.binding-iterator.rest.items c.args.block c.loop-binding.invariant
    none c.into_iter-binding-iterator.ensures.into_iter_gives.0 refl

pub fold_binding-returns-in_ok-push_taken-in-Some : goal.fold_binding-returns-in_ok-push_taken-in-Some
fold_binding-returns-in_ok-push_taken-in-Some t c =
    let s = c.args.source.now in
    let b = c.args.binding in
    let p = c.args.progress.now in (
      taken (part_term c.in-Some.part.now) c.in-Some.index b.targets.items b.site p.next,
      (
        taken_at (part_term c.in-Some.part.now) c.in-Some.index b.site p.next _ b.targets.items (map let_term c.args.folded.now.items) (map let_term c.push_taken.new.lets.items) c.in_ok-push_taken-in-Some.ensures.lets c.deref.ensures.value,
        let_taken s.producer (map part_term s.parts.now) s.holders.now c.args.passed.now (c.args.passed.now + 1) p.next c.push_taken.new.progress.next (let_term b) c.in-Some.index (part_term c.in-Some.part.now)
            (omega arith) (ap (λ (q : Progress). q.next) c.in_ok-push_taken-in-Some.ensures.next) c.in-Some.ensures.some.0,
      ),
    )

pub fold_binding-returns-in_ok-push_kept-in-None : goal.fold_binding-returns-in_ok-push_kept-in-None
fold_binding-returns-in_ok-push_kept-in-None t c =
    let s = c.args.source.now in
    let b = c.args.binding in
    let l : LetTerm = record { targets = b.targets.items; site = b.site; right = right_term c.in_ok-right-in-None.right } in (
      l ∷ [],
      (
        c.in_ok-push_kept-in-None.ensures,
        let_kept s.producer (map part_term s.parts.now) s.holders.now c.args.passed.now c.args.progress.now.next c.fold_right.new.passed c.fold_right.new.progress.next (let_term b) l refl refl c.in-None.ensures.none
            c.in_ok-right-in-None.ensures,
      ),
    )

pub fold_right-returns-in_ok-no-in-If : goal.fold_right-returns-in_ok-no-in-If
fold_right-returns-in_ok-no-in-If t c =
    let s = c.args.source.now in
    if_folded s.producer (map part_term s.parts.now) s.holders.now (ap right_term c.in-If.is) c.in_ok-yes-in-If.ensures c.in_ok-no-in-If.ensures

pub fold_right-returns-in_ok-body-in-Loop : goal.fold_right-returns-in_ok-body-in-Loop
fold_right-returns-in_ok-body-in-Loop t c =
    let s = c.args.source.now in
    loop_folded s.producer (map part_term s.parts.now) s.holders.now (ap right_term c.in-Loop.is) c.in_ok-test-in-Loop.ensures c.in_ok-body-in-Loop.ensures

pub fold_right-returns-in_default : goal.fold_right-returns-in_default
fold_right-returns-in_default t c = stays (is_whole c.args.right c.in_default.not-If c.in_default.not-Loop)
