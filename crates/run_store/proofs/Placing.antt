-- Arrays that are placed, and what else is there.
use Rattle.std.proofs.Common.{◌≡◌, ◌≢◌, ℕ, true, Option, Some, None, ap, ◌∙◌, sym, subst}
use Rattle.buffer_heap.specs.Heaps.{Held, HeapValue, at}
use Rattle.sac_base.specs.Arrays.{ArrayValue}
use Rattle.counted_code.specs.Values.{Heap, Small, is_small, place_as, place_value}
use Rattle.run_store.specs.Stands.{Stands, Placed}
use Rattle.run_store.specs.declared.store.Store.{Store}
use Rattle.run_values.specs.declared.value.RunValue.{RunValue}
use Rattle.run_values.specs.Shown.{value_of}

-- a small one changes no store
pub small_placed : (s : Store) (m : Heap) (a : ArrayValue) (v : RunValue) → true ≡ is_small a.shape → value_of v ≡ Small a → Stands s m → Placed v s (place_value a m)
small_placed s m a v small is stands = subst (λ t. Placed v s (place_as t a m)) small (is, stands)

abbrev IsNone : Option Held → Type 0
IsNone None = Unit {0}
IsNone (Some x) = ⊥

-- a buffer that was there before one was taken and its cells handed out
pub others_claimed : (h k : HeapValue) (p : ℕ) → at h p ≡ None → ((b : ℕ) → b ≢ p → at k b ≡ at h b) → (b : ℕ) (x : Held) → at h b ≡ Some x → at k b ≡ Some x
others_claimed h k p vacant others b x is = others b apart ∙ is
  where
    apart : b ≢ p
    apart same = subst IsNone (sym vacant ∙ ap (at h) (sym same) ∙ is) tt
