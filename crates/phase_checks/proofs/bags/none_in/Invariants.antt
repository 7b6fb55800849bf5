use Rattle.std.proofs.Common.{drop}
use Rattle.core_ir.specs.Binders.{NoneIn}
use Rattle.phase_checks.proofs.bags.none_in.Given as goal

abbrev pub invariant-loop-x : goal.invariant-loop-x
invariant-loop-x l = record {
  outside : NoneIn (drop l.x-index l.xs) l.scope → NoneIn l.xs l.scope;
  converse : NoneIn l.xs l.scope → NoneIn (drop l.x-index l.xs) l.scope;
}
