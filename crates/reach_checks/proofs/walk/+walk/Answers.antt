use Rattle.std.proofs.Common.{ap, sym, ◌∙◌}
use Rattle.std.specs.List.{list_all}
use Rattle.counted_code.specs.View.{code_term, code_right_term}
use Rattle.reach_checks.specs.Groups.{clear_in}
use Rattle.reach_checks.specs.Clear.{is_clear, right_is_clear, gens_are_clear, parts_are_clear, step_is_clear}
use Rattle.counted_code.specs.Pieces.{gens_term, parts_term}
use Rattle.reach_checks.proofs.Trees.{block_adds, if_adds, loop_adds, with_adds, parted_marked, parted_unmarked, second_says, first_says}
use Rattle.reach_checks.proofs.walk.+walk.Goals as goal

pub block_is_clear-returns : goal.block_is_clear-returns
block_is_clear-returns t c = c.steps_are_clear.ensures ∙ ap (list_all (step_is_clear (clear_in c.args.groups.now))) c.deref.ensures.value ∙ sym (block_adds (clear_in c.args.groups.now) c.args.block.now)

pub parted_is_clear-returns-then-is_marked : goal.parted_is_clear-returns-then-is_marked
parted_is_clear-returns-then-is_marked t c = parted_marked (clear_in c.args.groups.now) c.args.parted.now (sym c.is_marked.ensures ∙ c.if-is_marked.true)

pub parted_is_clear-returns : goal.parted_is_clear-returns
parted_is_clear-returns t c =
    c.parts_are_clear.ensures ∙ ap (λ ps. (parts_are_clear (clear_in c.args.groups.now)) (parts_term ps)) c.deref.ensures.value ∙ parted_unmarked (clear_in c.args.groups.now) c.args.parted.now (sym c.is_marked.ensures ∙ c.if-is_marked.false)

pub right_is_clear-returns-then-block_is_clear : goal.right_is_clear-returns-then-block_is_clear
right_is_clear-returns-then-block_is_clear t c =
    let i = c.in-If in
    second_says c.block_is_clear.result _ ((is_clear (clear_in c.args.groups.now)) (code_term i.yes)) ((is_clear (clear_in c.args.groups.now)) (code_term i.no)) _ c.block_is_clear.ensures c.if-block_is_clear.true c.block_is_clear-then-block_is_clear.ensures
    (ap (λ r. (right_is_clear (clear_in c.args.groups.now)) (code_right_term r)) i.is ∙ if_adds (clear_in c.args.groups.now) i.cond i.yes i.no)

pub right_is_clear-returns-else-block_is_clear : goal.right_is_clear-returns-else-block_is_clear
right_is_clear-returns-else-block_is_clear t c =
    let i = c.in-If in
    first_says _ ((is_clear (clear_in c.args.groups.now)) (code_term i.yes)) ((is_clear (clear_in c.args.groups.now)) (code_term i.no)) _ c.block_is_clear.ensures c.if-block_is_clear.false
    (ap (λ r. (right_is_clear (clear_in c.args.groups.now)) (code_right_term r)) i.is ∙ if_adds (clear_in c.args.groups.now) i.cond i.yes i.no)

pub right_is_clear-returns-then-block_is_clear-2 : goal.right_is_clear-returns-then-block_is_clear-2
right_is_clear-returns-then-block_is_clear-2 t c =
    let l = c.in-Loop in
    second_says c.block_is_clear-in-Loop.result _ ((is_clear (clear_in c.args.groups.now)) (code_term l.test)) ((is_clear (clear_in c.args.groups.now)) (code_term l.body)) _ c.block_is_clear-in-Loop.ensures c.if-block_is_clear-2.true c.block_is_clear-then-block_is_clear-2.ensures
    (ap (λ r. (right_is_clear (clear_in c.args.groups.now)) (code_right_term r)) l.is ∙ loop_adds (clear_in c.args.groups.now) l.first_body l.start l.params l.test l.body l.test_site)

pub right_is_clear-returns-else-block_is_clear-2 : goal.right_is_clear-returns-else-block_is_clear-2
right_is_clear-returns-else-block_is_clear-2 t c =
    let l = c.in-Loop in
    first_says _ ((is_clear (clear_in c.args.groups.now)) (code_term l.test)) ((is_clear (clear_in c.args.groups.now)) (code_term l.body)) _ c.block_is_clear-in-Loop.ensures c.if-block_is_clear-2.false
    (ap (λ r. (right_is_clear (clear_in c.args.groups.now)) (code_right_term r)) l.is ∙ loop_adds (clear_in c.args.groups.now) l.first_body l.start l.params l.test l.body l.test_site)

pub with_is_clear-returns : goal.with_is_clear-returns
with_is_clear-returns t c = c.gens_are_clear.ensures ∙ ap (λ gs. (gens_are_clear (clear_in c.args.groups.now)) (gens_term gs)) c.deref.ensures.value ∙ sym (with_adds (clear_in c.args.groups.now) c.args.with.now)
