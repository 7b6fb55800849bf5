use Rattle.std.proofs.Common.{◌≡◌, drop}
use Rattle.variable_bases.specs.Table.{may_have}
use Rattle.variable_bases.proofs.table.BaseTable.may_have.Given as goal

abbrev pub invariant-loop-k : goal.invariant-loop-k
invariant-loop-k l = may_have l.self (drop l.k l.xs) (drop l.k l.bases) ≡ may_have l.self l.xs l.bases
