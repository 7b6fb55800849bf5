use Rattle.std.proofs.Common.{◌≡◌}
use Rattle.core_ir.specs.View.{core_term}
use Rattle.core_ir.specs.WellFormed.{IsWellFormed}
use Rattle.specialise.specs.Plans.{entries, members, IsPlan}
use Rattle.specialise.specs.Progress.{Grows}
use Rattle.specialise.proofs.Turns.{EntriesTo}
use Rattle.specialise.proofs.work.serve_all.Given as goal

abbrev pub invariant-loop-next : goal.invariant-loop-next
invariant-loop-next l = record {
  planned : IsWellFormed (core_term l.core) → IsPlan (core_term l.core) (entries l.fn.plan.items.items) (members l.fn.plan.groups.items) → IsPlan (core_term l.core) (entries l.plan.items.items) (members l.plan.groups.items);
  grown : Grows (entries l.fn.plan.items.items) (members l.fn.plan.groups.items) (entries l.plan.items.items) (members l.plan.groups.items);
  served : IsWellFormed (core_term l.core) → IsPlan (core_term l.core) (entries l.fn.plan.items.items) (members l.fn.plan.groups.items) → EntriesTo (core_term l.core) (entries l.plan.items.items) (members l.plan.groups.items) l.next;
  main : l.plan.main ≡ l.fn.plan.main;
}
