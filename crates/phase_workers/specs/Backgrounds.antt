-- What stands where an index has no cell, as it lies in a heap.
use Rattle.std.specs.Prelude.{◌≡◌, ℕ, List, [], ℤ, Option, None, IsSomeAnd}
use Rattle.buffer_heap.specs.Heaps.{Held, HeapValue, In, IsLive, IsNamed}
use Rattle.counted_code.specs.Values.{Value, Small, Ref}
use Rattle.phase_loop_cells.specs.declared.copies.Background.{Background}
use Rattle.run_loops.specs.declared.cell_loop.LoopResult.{LoopResult}
use Rattle.run_loops.specs.declared.cell_loop.LoopResult.TheVariants.{Filled, Joined, Folded}
use Rattle.run_values.specs.declared.value.RunValue.{RunValue}
use Rattle.run_values.specs.declared.value.RunValue.TheVariants.{Unbound, Word, Short, Buffer}
use Rattle.run_values.specs.Shown.{base_of, value_of}
use Rattle.sac_base.specs.declared.base.Base.{Base}
use Rattle.sac_base.specs.declared.form.Form.{Form}

-- the cells that a value holds itself
abbrev pub cells_within : Value → List ℤ
cells_within (Small a) = a.cells
cells_within (Ref b base shape) = []

-- these are the cells of a small array, or the buffer of another one is in
abbrev pub IsAside : HeapValue → RunValue → List ℤ → Type 0
IsAside h (Buffer base id extents) cells = IsLive h id.place (IsNamed id.born)
IsAside h v cells = cells ≡ cells_within (value_of v)

abbrev pub KeptAside : HeapValue → LoopResult → List ℤ → Type 0
KeptAside h (Filled v old) cells = IsAside h v cells
KeptAside h _ cells = Unit {0}

-- the buffer of this number is in, with these cells
abbrev pub HasCells : ℕ → List ℤ → Held → Type 0
HasCells born cells x = (x.born ≡ born) × (x.content ≡ In cells)

-- these are the cells of an array, as they lie in the heap
abbrev pub LieIn : HeapValue → RunValue → List ℤ → Type 0
LieIn h (Buffer base id extents) cells = IsLive h id.place (HasCells id.born cells)
LieIn h v cells = cells ≡ cells_within (value_of v)

-- the array whose cells stand where an index has none of so many elements, or nothing where each must have one
abbrev pub IsBackground : HeapValue → LoopResult → ℕ → Option Background → Type 0
IsBackground h (Filled v old) size background = IsSomeAnd background (λ b. (b.old ≡ old) × (b.size ≡ size) × LieIn h v b.cells.now)
IsBackground h _ size background = background ≡ None

-- the base of the array that is made
abbrev pub base_made : LoopResult → Form → Base
base_made (Filled v old) form = base_of (value_of v)
base_made _ form = form.base
