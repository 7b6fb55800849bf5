use Rattle.std.proofs.Common.{drop}
use Rattle.core_ir.specs.Scopes.{AllIn}
use Rattle.phase_checks.proofs.bags.all_in.Given as goal

abbrev pub invariant-loop-x : goal.invariant-loop-x
invariant-loop-x l = record {
  inside : AllIn (drop l.x-index l.xs) l.scope → AllIn l.xs l.scope;
  converse : AllIn l.xs l.scope → AllIn (drop l.x-index l.xs) l.scope;
}
