use Rattle.std.proofs.Common.{◌≡◌, drop, bytes_eq}
use Rattle.std.specs.Prelude.{find}
use Rattle.source_meaning.specs.declared.environment.Binding.{Binding}
use Rattle.source_meaning.proofs.environment.find.Given as goal

abbrev pub invariant-loop-binding : goal.invariant-loop-binding
invariant-loop-binding l = find (λ (b : Binding). bytes_eq b.name l.name) (drop l.binding-index l.bindings) ≡ find (λ (b : Binding). bytes_eq b.name l.name) l.bindings
