use Rattle.std.proofs.Common.{◌≡◌}
use Rattle.core_ir.specs.View.{core_term}
use Rattle.core_ir.specs.WellFormed.{IsWellFormed}
use Rattle.specialise.specs.Plans.{entries, members, IsPlan}
use Rattle.specialise.specs.Progress.{Grows}
use Rattle.specialise.proofs.Turns.{CallsTo}
use Rattle.specialise.proofs.work.serve_item.Given as goal

abbrev pub invariant-loop-call : goal.invariant-loop-call
invariant-loop-call l = record {
  planned : IsWellFormed (core_term l.core) → IsPlan (core_term l.core) (entries l.fn.plan.items.items) (members l.fn.plan.groups.items) → IsPlan (core_term l.core) (entries l.plan.items.items) (members l.plan.groups.items);
  grown : Grows (entries l.fn.plan.items.items) (members l.fn.plan.groups.items) (entries l.plan.items.items) (members l.plan.groups.items);
  served : IsWellFormed (core_term l.core) → IsPlan (core_term l.core) (entries l.fn.plan.items.items) (members l.fn.plan.groups.items) → CallsTo (core_term l.core) (entries l.plan.items.items) (members l.plan.groups.items) l.call-items l.call-index;
  main : l.plan.main ≡ l.fn.plan.main;
}
