use Rattle.std.proofs.Common.{◌≡◌, length}
use Rattle.core_ir.specs.Outcome.{SameOutcome, SameOutside}
use Rattle.core_ir.specs.View.{core_term}
use Rattle.core_ir.specs.WellFormed.{IsWellFormed}
use Rattle.unreached_functions.specs.Closed.{IsClosed}
use Rattle.unreached_functions.proofs.empty.empty_unmarked.Given as goal

abbrev pub invariant-loop-place : goal.invariant-loop-place
invariant-loop-place l = record {
  outcome : IsClosed (core_term l.initial.core) l.marks.groups.items l.marks.functions.items → SameOutcome (core_term l.initial.core) (core_term l.core);
  closed : IsClosed (core_term l.initial.core) l.marks.groups.items l.marks.functions.items → IsClosed (core_term l.core) l.marks.groups.items l.marks.functions.items;
  well : IsWellFormed (core_term l.initial.core) → IsWellFormed (core_term l.core);
  outside : SameOutside (core_term l.initial.core) (core_term l.core);
  count : length l.core.functions.items ≡ length l.initial.core.functions.items;
}
