-- Which values can be read on a heap.
use Rattle.std.specs.Prelude.{ℕ, All, List}
use Rattle.buffer_heap.specs.Heaps.{HeapValue, IsLive, IsNamed}
use Rattle.core_ir.specs.declared.tree.Var.{Var}
use Rattle.counted_code.specs.Machine.{Values}
use Rattle.counted_code.specs.Values.{Value, Small, Ref}

-- the value holds its array itself, or it is a reference to a buffer that is there and in
abbrev pub IsAlive : HeapValue → Value → Type 0
IsAlive h (Small a) = Unit {0}
IsAlive h (Ref b base shape) = (place : ℕ) × IsLive h place (IsNamed b)

abbrev pub AreAlive : HeapValue → Values → List Var → Type 0
AreAlive h e xs = All (λ x. IsAlive h (e x)) xs
