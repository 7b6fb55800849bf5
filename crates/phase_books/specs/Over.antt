-- Results that are put into the buffer of an array.
use Rattle.std.specs.Prelude.{ℕ, ◌+◌, ◌%◌, ◌^◌, List, ℤ}
use Rattle.buffer_heap.specs.Heaps.{HeapValue, In, at, lifted, with_content, with_place}

-- the heap whose buffer at a place was handed out, and counts as reused
abbrev pub reused_at : HeapValue → ℕ → HeapValue
reused_at h place = record (lifted h place) { reused = (h.reused + 1) % 2 ^ 64 }

-- these cells were put there in place of those that were handed out
abbrev pub settled_over : HeapValue → ℕ → List ℤ → HeapValue
settled_over h place cells = with_place (reused_at h place) place (with_content (at (reused_at h place) place) (In cells))
