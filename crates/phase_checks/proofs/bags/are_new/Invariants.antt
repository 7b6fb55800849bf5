use Rattle.std.proofs.Common.{drop}
use Rattle.core_ir.specs.Binders.{NoneIn}
use Rattle.core_ir.specs.WellFormed.{Distinct}
use Rattle.phase_checks.proofs.bags.are_new.Given as goal

abbrev pub invariant-loop-place : goal.invariant-loop-place
invariant-loop-place l = record {
  distinct : Distinct (drop l.place l.xs) → Distinct l.xs;
  outside : NoneIn (drop l.place l.xs) l.scope → NoneIn l.xs l.scope;
  still_distinct : Distinct l.xs → Distinct (drop l.place l.xs);
  still_outside : NoneIn l.xs l.scope → NoneIn (drop l.place l.xs) l.scope;
}
