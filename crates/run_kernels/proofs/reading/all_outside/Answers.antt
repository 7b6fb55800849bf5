use Rattle.std.proofs.Common.{All, refl, subst, take_all}
use Rattle.std.proofs.lemmas.List.Elements.{All-more}
use Rattle.run_values.specs.Scopes.{current}
use Rattle.phase_laws.specs.only_reads.Reads.{Outside}
use Rattle.run_kernels.specs.Scopes.{refers}
use Rattle.run_kernels.proofs.reading.all_outside.Goals as goal

pub loop-x-preserved : goal.loop-x-preserved
loop-x-preserved c = All-more (Outside (refers (current c.args.frames.now))) c.args.xs.now c.loop-x.x-index _ c.loop-x-test.true c.loop-x.invariant (c.if-not-is_outside.ensures refl)

pub returns : goal.returns
returns c = λ t. subst (All (Outside (refers (current c.args.frames.now)))) (take_all c.loop-x.x-index c.args.xs.now c.loop-x-test.false) c.loop-x.invariant
