use Rattle.std.proofs.Common.{w32, to_z, of_z}
use Rattle.run_values.specs.Numbers.{numbers}
use Rattle.run_plain.proofs.Words.{one_place_more}
use Rattle.run_plain.proofs.operators.all.Goals as goal

pub loop-other-preserved : goal.loop-other-preserved
loop-other-preserved c = (
  one_place_more (to_z w32 (of_z w32 c.args.n)) c.push.result (numbers c.loop-other.out) (numbers c.push.new.self) c.as_slice-other-items.result.now c.loop-other._other-index c.loop-other-test.true c.loop-other.invariant.1 c.push.ensures.room c.push.ensures.numbers c.loop-other.invariant.0,
  c.loop-other.invariant.1,
)
