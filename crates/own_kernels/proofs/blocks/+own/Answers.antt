use Rattle.std.proofs.Common.{◌&&◌, List, ap, sym, ◌∙◌}
use Rattle.kernel_tree.specs.declared.tree.KernelPart.{KernelPart}
use Rattle.kernel_tree.specs.Terms.{Over}
use Rattle.kernel_tree.specs.View.{kernel_term, parts_then}
use Rattle.own_kernels.specs.Steps.{is_own}
use Rattle.own_kernels.proofs.Parts.{not_own, own_between, own_each, own_if, own_next, own_turns}
use Rattle.own_kernels.proofs.blocks.+own.Goals as goal

pub is_own_block-returns-then-not-is_own_part : goal.is_own_block-returns-then-not-is_own_part
is_own_block-returns-then-not-is_own_part t c =
    let rank = c.args.rank in
    let buffer = c.args.buffer in
    sym (not_own rank buffer c.deref-part-items.result.now c.loop-part.part-index c.part-item.result c.part-item.result c.loop-part-test.true c.part-item.is (sym c.is_own_part.ensures ∙ c.if-not-is_own_part.true))
    ∙ c.loop-part.invariant ∙ ap (λ (ps : List KernelPart). is_own rank buffer (parts_then ps Over)) c.deref-part-items.ensures.value

pub is_own_block-loop-part-preserved : goal.is_own_block-loop-part-preserved
is_own_block-loop-part-preserved t c =
    own_next c.args.rank c.args.buffer c.deref-part-items.result.now c.loop-part.part-index c.part-item.result c.part-item.result c.loop-part-test.true c.part-item.is (sym c.is_own_part.ensures ∙ c.if-not-is_own_part.false)
    ∙ c.loop-part.invariant

pub is_own_part-returns-then-is_own_block : goal.is_own_part-returns-then-is_own_block
is_own_part-returns-then-is_own_block t c =
    let i = c.in-If in
    let second = is_own c.args.rank c.args.buffer (kernel_term i.no) in
    c.is_own_block-then-is_own_block.ensures
    ∙ sym (own_if c.args.rank c.args.buffer c.args.part.now i.cond i.yes i.no i.is ∙ ap (λ b. b && second) (sym c.is_own_block.ensures ∙ c.if-is_own_block.true))

pub is_own_part-returns-else-is_own_block : goal.is_own_part-returns-else-is_own_block
is_own_part-returns-else-is_own_block t c =
    let i = c.in-If in
    let second = is_own c.args.rank c.args.buffer (kernel_term i.no) in
    c.if-is_own_block.false
    ∙ sym (own_if c.args.rank c.args.buffer c.args.part.now i.cond i.yes i.no i.is ∙ ap (λ b. b && second) (sym c.is_own_block.ensures ∙ c.if-is_own_block.false))

pub is_own_part-returns-then-is_own_block-2 : goal.is_own_part-returns-then-is_own_block-2
is_own_part-returns-then-is_own_block-2 t c =
    let i = c.in-Turns in
    let second = is_own c.args.rank c.args.buffer (kernel_term i.body) in
    c.is_own_block-then-is_own_block-2.ensures
    ∙ sym (own_turns c.args.rank c.args.buffer c.args.part.now i.first_body i.test i.cond i.body i.site i.is ∙ ap (λ b. b && second) (sym c.is_own_block-in-Turns.ensures ∙ c.if-is_own_block-2.true))

pub is_own_part-returns-else-is_own_block-2 : goal.is_own_part-returns-else-is_own_block-2
is_own_part-returns-else-is_own_block-2 t c =
    let i = c.in-Turns in
    let second = is_own c.args.rank c.args.buffer (kernel_term i.body) in
    c.if-is_own_block-2.false
    ∙ sym (own_turns c.args.rank c.args.buffer c.args.part.now i.first_body i.test i.cond i.body i.site i.is ∙ ap (λ b. b && second) (sym c.is_own_block-in-Turns.ensures ∙ c.if-is_own_block-2.false))

pub is_own_part-returns-then-is_behind : goal.is_own_part-returns-then-is_behind
is_own_part-returns-then-is_behind t c =
    let i = c.in-Each in
    let second = is_own c.args.rank c.args.buffer (kernel_term i.body) in
    c.is_own_block-then-is_behind.ensures
    ∙ sym (own_each c.args.rank c.args.buffer c.args.part.now i.index i.from i.to i.body i.is ∙ ap (λ b. b && second) (sym c.is_behind.ensures ∙ c.if-is_behind.true))

pub is_own_part-returns-else-is_behind : goal.is_own_part-returns-else-is_behind
is_own_part-returns-else-is_behind t c =
    let i = c.in-Each in
    let second = is_own c.args.rank c.args.buffer (kernel_term i.body) in
    c.if-is_behind.false
    ∙ sym (own_each c.args.rank c.args.buffer c.args.part.now i.index i.from i.to i.body i.is ∙ ap (λ b. b && second) (sym c.is_behind.ensures ∙ c.if-is_behind.false))

pub is_own_part-returns-then-is_behind-2 : goal.is_own_part-returns-then-is_behind-2
is_own_part-returns-then-is_behind-2 t c =
    let i = c.in-Between in
    let second = is_own c.args.rank c.args.buffer (kernel_term i.body) in
    c.is_own_block-then-is_behind-2.ensures
    ∙ sym (own_between c.args.rank c.args.buffer c.args.part.now i.index i.from i.from_closed i.to i.to_closed i.body i.site i.is ∙ ap (λ b. b && second) (sym c.is_behind-in-Between.ensures ∙ c.if-is_behind-2.true))

pub is_own_part-returns-else-is_behind-2 : goal.is_own_part-returns-else-is_behind-2
is_own_part-returns-else-is_behind-2 t c =
    let i = c.in-Between in
    let second = is_own c.args.rank c.args.buffer (kernel_term i.body) in
    c.if-is_behind-2.false
    ∙ sym (own_between c.args.rank c.args.buffer c.args.part.now i.index i.from i.from_closed i.to i.to_closed i.body i.site i.is ∙ ap (λ b. b && second) (sym c.is_behind-in-Between.ensures ∙ c.if-is_behind-2.false))
