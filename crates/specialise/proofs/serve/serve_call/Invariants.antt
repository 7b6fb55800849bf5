use Rattle.std.proofs.Common.{◌≡◌}
use Rattle.core_ir.specs.View.{core_term}
use Rattle.core_ir.specs.WellFormed.{IsWellFormed}
use Rattle.specialise.specs.Plans.{entries, members, IsPlan}
use Rattle.specialise.specs.Progress.{Grows}
use Rattle.specialise.proofs.Progress.{EnoughTo}
use Rattle.specialise.proofs.serve.serve_call.Given as goal

abbrev pub invariant-loop-place : goal.invariant-loop-place
invariant-loop-place l = record {
  planned : IsWellFormed (core_term l.core) → IsPlan (core_term l.core) (entries l.fn.plan.items.items) (members l.fn.plan.groups.items) → IsPlan (core_term l.core) (entries l.plan.items.items) (members l.plan.groups.items);
  grown : Grows (entries l.fn.plan.items.items) (members l.fn.plan.groups.items) (entries l.plan.items.items) (members l.plan.groups.items);
  served : IsWellFormed (core_term l.core) → IsPlan (core_term l.core) (entries l.fn.plan.items.items) (members l.fn.plan.groups.items) → EnoughTo (entries l.plan.items.items) (members l.plan.groups.items) l.call.group l.call.shapes.items l.own l.place-index;
  main : l.plan.main ≡ l.fn.plan.main;
}
