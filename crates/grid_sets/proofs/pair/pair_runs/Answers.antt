use Rattle.std.proofs.Common.{arith}
use Rattle.grid_sets.proofs.Pairs.{never_too_fine}
use Rattle.grid_sets.proofs.pair.pair_runs.Goals as goal

pub returns-clause-fine : goal.returns-clause-fine
returns-clause-fine c p is = (
  λ e. absurd (never_too_fine 9223372036854775807 c.args.a.now c.args.b.now (omega arith) c.is_too_fine.ensures.first_fits c.is_too_fine.ensures.second_fits
      (c.is_too_fine.ensures.coarse c.if-is_too_fine.false) (c.axis_runs.ensures.too_fine e)),
  λ h. let on = (c.is_too_fine.ensures.fine p is).1 h in absurd (cc),
)
