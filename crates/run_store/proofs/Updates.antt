-- Arrays with one element changed, whose references are given up.
use Rattle.std.proofs.Common.{◌≡◌, ◌<◌, ℕ, zero, suc, ◌+◌, true, false, ◌&&◌, List, [], ◌∷◌, ◌++◌, length, map, ℤ, Option, Some, Ok, refl, ap, ◌∙◌, sym, subst, slice_set, unsigned_abs}
use Rattle.std.proofs.lemmas.List.{length-set, get_or_append_left, set-append_left}
use Rattle.buffer_heap.specs.declared.heap.BufferId.{BufferId}
use Rattle.sac_base.specs.declared.base.Base.{Base}
use Rattle.sac_base.specs.declared.faults.FaultKind.TheVariants.{F6}
use Rattle.sac_base.specs.Arrays.{ArrayValue, scalar, same_base}
use Rattle.sac_base.specs.Parts.{Part, check, part_at_index, numbers_of, replaced}
use Rattle.counted_code.specs.Loops.{written_at}
use Rattle.counted_code.specs.Values.{Buffer as MachineBuffer, Heap, Ref, Done, no_buffer, buffer_at, cells_of, count_of, is_small, place_as, read, release_count, take_buffer}
use Rattle.run_store.specs.Stands.{Stands}
use Rattle.run_store.specs.Updates.{IsUpdated, renewed}
use Rattle.run_store.specs.declared.store.Store.{Store}
use Rattle.run_values.specs.Numbers.{numbers}
use Rattle.run_values.specs.Shown.{value_of}
use Rattle.run_values.specs.declared.few.Few.{Few}
use Rattle.run_values.specs.declared.value.RunValue.{RunValue}
use Rattle.run_values.specs.declared.value.RunValue.TheVariants.{Word, Buffer}

-- ---- an old buffer loses a reference before a new one is taken, or after it

module _ (m : Heap) (b : ℕ) (xs : List ℤ) (within : b < length m.buffers) where
  abbrev taken : List MachineBuffer
  taken = record { count = 1; cells = xs } ∷ []

  same_buffer : buffer_at (take_buffer xs m) b ≡ buffer_at m b
  same_buffer = get_or_append_left m.buffers taken no_buffer b within

  set_old : (x : MachineBuffer) → slice_set m.buffers b x ++ taken ≡ slice_set (m.buffers ++ taken) b x
  set_old x = sym (set-append_left m.buffers taken b x within)

  released_taken : (c : ℕ) → take_buffer xs (release_count b c m) ≡ release_count b c (take_buffer xs m)
  released_taken zero = refl
  released_taken (suc zero) = λ i. record m { buffers = set_old no_buffer i; taken = m.taken + 1; given = m.given + 1 }
  released_taken (suc (suc c)) =
      (λ i. record m { buffers = set_old (record { count = suc c; cells = cells_of m b }) i; taken = m.taken + 1 })
      ∙ (λ i. record m { buffers = slice_set (m.buffers ++ taken) b (record { count = suc c; cells = (sym same_buffer i).cells }); taken = m.taken + 1 })

  pub either_order : take_buffer xs (release_count b (count_of m b) m) ≡ release_count b (count_of (take_buffer xs m) b) (take_buffer xs m)
  either_order = released_taken (count_of m b) ∙ (λ i. release_count b (sym same_buffer i).count (take_buffer xs m))

pub length_released : (b c : ℕ) (m : Heap) → length (release_count b c m).buffers ≡ length m.buffers
length_released b zero m = refl
length_released b (suc zero) m = length-set m.buffers b no_buffer
length_released b (suc (suc c)) m = length-set m.buffers b (record { count = suc c; cells = cells_of m b })

-- ---- the array with one element changed

element_replaced : (a : ArrayValue) (base : Base) (k : ℕ) (n : ℤ) → same_base base a.base ≡ true
    → replaced a (Some (record { start = k; shape = [] })) (scalar base n) ≡ Ok (record { base = a.base; shape = a.shape; cells = written_at k (n ∷ []) a.cells })
element_replaced a base k n same =
    ap (λ t. check (t && true) F6 (Ok (record { base = a.base; shape = a.shape; cells = written_at k (n ∷ []) a.cells }))) same

module _ (base part_base : Base) (id new : BufferId) (extents : Few) (index : RunValue) (n : ℤ) (k : ℕ) (s : Store) (m : Heap) where
  abbrev whole : ArrayValue
  whole = record { base = base; shape = map unsigned_abs (numbers extents); cells = cells_of m id.born }

  abbrev changed : ArrayValue
  changed = record { base = base; shape = map unsigned_abs (numbers extents); cells = written_at k (n ∷ []) (cells_of m id.born) }

  pub updated : (array part : RunValue) → array ≡ Buffer base id extents → part ≡ Word part_base n → same_base part_base base ≡ true → is_small (map unsigned_abs (numbers extents)) ≡ false
      → part_at_index whole (numbers_of (read m (value_of index))) ≡ Some (record { start = k; shape = [] }) → new.born ≡ length m.buffers → Stands s (renewed id.born k n m)
      → IsUpdated array index part (Buffer base new extents) s m
  updated array part array_is part_is same large found number stands =
      subst (λ a. IsUpdated a index part (Buffer base new extents) s m) (sym array_is)
      (subst (λ p. IsUpdated (Buffer base id extents) index p (Buffer base new extents) s m) (sym part_is) (record {
        changed = changed;
        value = ap (λ (o : Option Part). replaced whole o (scalar part_base n)) found ∙ element_replaced whole part_base k n same;
        heap = take_buffer changed.cells m;
        placed = ap (λ t. place_as t changed m) large ∙ (λ i. Done (Ref (sym number i) base changed.shape) (take_buffer changed.cells m));
        stands = stands;
      }))
