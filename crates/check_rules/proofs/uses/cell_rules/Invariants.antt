use Rattle.std.proofs.Common.{◌≡◌, drop}
use Rattle.check_rules.specs.First.{earlier}
use Rattle.check_rules.specs.Walk.{cell_rules}
use Rattle.check_rules.proofs.uses.cell_rules.Given as goal

abbrev pub invariant-loop-cell : goal.invariant-loop-cell
invariant-loop-cell l = earlier l.first (cell_rules l.wanted (drop l.cell-index l.cells)) ≡ cell_rules l.wanted l.cells
