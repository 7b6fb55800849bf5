-- Arrays with one element changed, whose references are given up.
use Rattle.std.specs.Prelude.{◌≡◌, ℕ, [], ◌∷◌, ℤ, Ok}
use Rattle.sac_base.specs.Arrays.{ArrayValue}
use Rattle.sac_base.specs.Parts.{replace}
use Rattle.counted_code.specs.Loops.{written_at}
use Rattle.counted_code.specs.Values.{Heap, Done, cells_of, count_of, read, place_value, release, release_count, take_buffer}
use Rattle.run_store.specs.Stands.{Stands}
use Rattle.run_store.specs.declared.store.Store.{Store}
use Rattle.run_values.specs.declared.value.RunValue.{RunValue}
use Rattle.run_values.specs.Shown.{value_of}

-- the machine places the array with the part at the index, and then releases the old one: the value is its new one, and the store stands for its heap
pub record IsUpdated (array index part v : RunValue) (s : Store) (m : Heap) : Type 0 where
  pub changed : ArrayValue
  pub value : replace (read m (value_of array)) (read m (value_of index)) (read m (value_of part)) ≡ Ok changed
  pub heap : Heap
  pub placed : place_value changed m ≡ Done (value_of v) heap
  pub stands : Stands s (release (value_of array) heap)

-- the heap with a new buffer, which has the cells of another one, but this number at a place
abbrev pub copied : ℕ → ℕ → ℤ → Heap → Heap
copied b k n m = take_buffer (written_at k (n ∷ []) (cells_of m b)) m

-- the same, where the other buffer then loses a reference
abbrev pub renewed : ℕ → ℕ → ℤ → Heap → Heap
renewed b k n m = release_count b (count_of (copied b k n m) b) (copied b k n m)
