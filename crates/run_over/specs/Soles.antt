-- Values and buffers with one reference.
use Rattle.std.specs.Prelude.{◌≡◌, ◌==◌, ℕ, Bool, false}
use Rattle.buffer_heap.specs.Heaps.{Held, IsIn}
use Rattle.counted_code.specs.Values.{Heap, Value, Small, Ref, count_of}

-- the value's reference to its buffer is the only one
abbrev pub is_only : Heap → Value → Bool
is_only m (Small a) = false
is_only m (Ref buffer base shape) = count_of m buffer == 1

-- the buffer of this number is in, and has one reference
abbrev pub IsSoleOf : ℕ → Held → Type 0
IsSoleOf born x = IsIn x × (x.born ≡ born) × (x.count ≡ 1)
