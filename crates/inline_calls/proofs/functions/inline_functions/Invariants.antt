use Rattle.std.proofs.Common.{◌≡◌, length}
use Rattle.core_ir.specs.Outcome.{SameOutcome, SameOutside}
use Rattle.core_ir.specs.View.{core_term}
use Rattle.core_ir.specs.WellFormed.{IsWellFormed}
use Rattle.core_forms.specs.inlined_bodies.Functions.{ComeTo}
use Rattle.inline_calls.specs.Measures.{AreSizes}
use Rattle.inline_calls.proofs.functions.inline_functions.Given as goal

abbrev pub invariant-loop-place : goal.invariant-loop-place
invariant-loop-place l = record {
  outcome : IsWellFormed (core_term l.initial.core) → SameOutcome (core_term l.initial.core) (core_term l.core);
  outside : SameOutside (core_term l.initial.core) (core_term l.core);
  well : IsWellFormed (core_term l.initial.core) → IsWellFormed (core_term l.core);
  come : IsWellFormed (core_term l.initial.core) → ComeTo (core_term l.initial.core) l.inlines 0 → ComeTo (core_term l.core) l.inlines l.place;
  sized : AreSizes (core_term l.core) l.sizes.items;
  count : length l.core.functions.items ≡ length l.initial.core.functions.items;
}
