use Rattle.run_loops.proofs.Found.{value_there}
use Rattle.run_loops.proofs.bindings.value_at.Goals as goal

pub returns-in-Some : goal.returns-in-Some
returns-in-Some c = value_there c.args.values.now c.args.k c.get.result c.get.ensures.lookup c.in-Some.value c.in-Some.is
