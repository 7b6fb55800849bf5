use Rattle.std.proofs.Common.{rules, ◌≤◌}
use Rattle.grid_sets.specs.Periods.{IsLeastMultiple}
use Rattle.grid_sets.proofs.Pairs.{found_one, coarse_over}
use Rattle.grid_sets.proofs.pair.is_too_fine.Goals as goal

pub returns-then-is_overlap-clause-coarse : goal.returns-then-is_overlap-clause-coarse
returns-then-is_overlap-clause-coarse c off =
    coarse_over c.args.a.now c.args.b.now c.step_of-first.result c.step_of-second.result (search rules) c.step_of-first.ensures.value c.step_of-second.ensures.value
    (found_one {P = λ p. IsLeastMultiple c.step_of-first.result c.step_of-second.result p × (p ≤ 4096)} c.least_multiple.result c.is_none.result (search rules) off c.least_multiple.ensures.found)
