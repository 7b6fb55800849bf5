use Rattle.std.proofs.Common.{◌≡◌, ℕ, ◌<◌, get_or, bytes_eq, false}
use Rattle.source_meaning.specs.declared.environment.Binding.{Binding}
use Rattle.source_meaning.proofs.environment.assign_in.Given as goal

abbrev pub invariant-loop-i : goal.invariant-loop-i
invariant-loop-i l = record {
  kept : l.bindings.items ≡ l.initial.bindings.items;
  before : (k : ℕ) (d : Binding) → k < l.i → bytes_eq (get_or l.bindings.items k d).name l.name ≡ false;
}
