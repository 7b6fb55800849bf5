use Rattle.std.proofs.Common.{arith, rules, sym, ap, ◌∙◌}
use Rattle.counted_code.specs.Pieces.{gens_term, parts_term}
use Rattle.counted_code.specs.View.{code_right_term, step_term, steps_before}
use Rattle.code_equality.proofs.Sides.{block_same, steps_same, if_same, loop_same, with_same, parted_same}
use Rattle.code_equality.proofs.walk.+same.Goals as goal

pub same_block-returns-then-same_vars : goal.same_block-returns-then-same_vars
same_block-returns-then-same_vars t c = λ same.
    block_same c.args.a.now c.args.b.now (sym c.deref.ensures.value ∙ c.same_vars.ensures c.if-same_vars.true ∙ c.deref-2.ensures.value)
    (ap steps_before (sym c.deref-then-same_vars.ensures.value) ∙ c.same_steps.ensures same ∙ ap steps_before c.deref-then-same_vars-2.ensures.value)

pub same_with-returns-then-eq : goal.same_with-returns-then-eq
same_with-returns-then-eq t c = λ same.
    with_same c.args.a.now c.args.b.now (search rules)
    (ap gens_term (sym c.deref.ensures.value) ∙ c.same_gens.ensures same ∙ ap gens_term c.deref-then-eq.ensures.value)

pub same_parted-returns-then-same_parted_head : goal.same_parted-returns-then-same_parted_head
same_parted-returns-then-same_parted_head t c = λ same.
    let head = c.same_parted_head.ensures in
    let is = c.if-same_parted_head.true in
    parted_same c.args.a.now c.args.b.now (head.frame is) (head.base is) (head.cell is) (head.op is)
    (ap parts_term (sym c.deref.ensures.value) ∙ c.same_parts.ensures same ∙ ap parts_term c.deref-then-same_parted_head.ensures.value) (head.reuse is)

pub same_steps-loop-i-preserved : goal.same_steps-loop-i-preserved
same_steps-loop-i-preserved t c = λ rest.
    c.loop-i.invariant
    (steps_same c.args.a.now c.args.b.now c.loop-i.i c.index-a-i.result c.index-b-i.result c.loop-i-test.true (omega (arith, c.if-a-b.false))
    (ap step_term (sym c.index-a-i.is) ∙ c.same_step.ensures c.if-not-same_step.false ∙ ap step_term c.index-b-i.is) rest)

pub same_if-returns : goal.same_if-returns
same_if-returns t c = λ same.
    let i = c.in-If in
    let j = c.in-If-b in
    ap code_right_term i.is
    ∙ if_same i.cond j.other i.yes i.no j.yes_too j.no_too (search rules)
    (c.same_block.ensures c.if-not-same_block.false) (c.same_block-2.ensures same)
    ∙ ap code_right_term (sym j.is)

pub same_loop-returns : goal.same_loop-returns
same_loop-returns t c = λ same.
    let l = c.in-Loop in
    let m = c.in-Loop-b in
    ap code_right_term l.is
    ∙ loop_same l.first_body m.first_too l.start l.params m.start_too m.params_too l.test l.body m.test_too m.body_too l.test_site m.site_too
    (search rules)
    (sym c.deref.ensures.value ∙ c.same_vars.ensures c.if-not-same_vars.false ∙ c.deref-2.ensures.value)
    (sym c.deref-3.ensures.value ∙ c.same_vars-2.ensures c.if-not-same_vars-2.false ∙ c.deref-4.ensures.value)
    (c.same_block.ensures c.if-not-same_block.false) (c.same_block-2.ensures same) (search rules)
    ∙ ap code_right_term (sym m.is)
