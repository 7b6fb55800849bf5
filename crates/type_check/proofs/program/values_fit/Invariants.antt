use Rattle.std.proofs.Common.{◌≡◌, drop}
use Rattle.check_rules.specs.Accepted.{values_fit}
use Rattle.type_check.proofs.program.values_fit.Given as goal

abbrev pub invariant-loop-k : goal.invariant-loop-k
invariant-loop-k l = values_fit (drop l.k l.bases) (drop l.k l.types) ≡ values_fit l.bases l.types
