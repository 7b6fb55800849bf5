use Rattle.std.proofs.Common.{All, ap, refl, subst, sym, ◌∙◌}
use Rattle.counted_code.specs.View.{code_right_term}
use Rattle.counted_code.proofs.Trees.{if_term, loop_term}
use Rattle.phase_laws.specs.only_reads.Reads.{Outside, RightOnlyReads}
use Rattle.run_values.specs.Scopes.{current}
use Rattle.run_kernels.specs.Plain.{plain_in}
use Rattle.run_kernels.specs.Scopes.{refers}
use Rattle.run_kernels.proofs.Walks.{reads_more}
use Rattle.run_kernels.proofs.reading.+reading.Goals as goal

pub block_reads-loop-step-preserved : goal.block_reads-loop-step-preserved
block_reads-loop-step-preserved t c =
    reads_more (plain_in c.args.plain.now) (refers (current c.args.frames.now)) c.deref-step-items.result.now c.loop-step.step-index c.step-item.result c.loop-step-test.true c.step-item.is c.loop-step.invariant (c.if-not-step_reads.ensures refl)

pub right_reads-returns-then-block_reads : goal.right_reads-returns-then-block_reads
right_reads-returns-then-block_reads t c told =
    let w = c.in-If in
    subst (RightOnlyReads (plain_in c.args.plain.now) (refers (current c.args.frames.now))) (sym (ap code_right_term w.is ∙ if_term w.cond w.yes w.no)) (c.if-block_reads.ensures refl, c.block_reads-then-block_reads.ensures told)

pub right_reads-returns-then-block_reads-2 : goal.right_reads-returns-then-block_reads-2
right_reads-returns-then-block_reads-2 t c told =
    let w = c.in-Loop in
    let outside = subst (All (Outside (refers (current c.args.frames.now)))) c.deref-in-Loop.ensures.value (c.if-not-all_outside.ensures refl) in
    subst (RightOnlyReads (plain_in c.args.plain.now) (refers (current c.args.frames.now))) (sym (ap code_right_term w.is ∙ loop_term w.first_body w.start w.params w.test w.body w.test_site)) (outside, c.if-block_reads-2.ensures refl, c.block_reads-then-block_reads-2.ensures told)
