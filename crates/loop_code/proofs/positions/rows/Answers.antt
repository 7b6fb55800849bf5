use Rattle.std.proofs.Common.{subst}
use Rattle.loop_code.specs.Runs.{AreRunsOver}
use Rattle.loop_code.proofs.positions.rows.Goals as goal

pub returns : goal.returns
returns c = subst (λ is. AreRunsOver is c.args.parts.now c.in_ok-rows.rows.items) c.in_ok-indices.ensures c.in_ok-rows.ensures
