use Rattle.run_kernels.proofs.Results.{held_all, held_more}
use Rattle.run_kernels.proofs.values.word_values.Goals as goal

pub loop-held-preserved : goal.loop-held-preserved
loop-held-preserved c bs =
    held_more bs c.args.registers.now c.args.results.now c.loop-held.held-index _ c.loop-held.values.items c.push.new.self.items c.in-Some.value c.loop-held-test.true c.in_ok-push.ensures.items (c.in-Some.ensures bs) (c.loop-held.invariant bs)

pub returns : goal.returns
returns c bs = held_all bs c.args.registers.now c.args.results.now c.loop-held.held-index c.loop-held.values.items c.loop-held-test.false (c.loop-held.invariant bs)
