-- The cells of the tests.
use Rattle.std.proofs.Common.{◌≡◌, ℕ, ◌%◌, List, [], ◌∷◌, ℤ, pos, length, set, Option, Some, None, Ok, refl, arith, sym, ap, ◌∙◌, subst, to_z, w32}
use Rattle.std.proofs.lemmas.Int.{to_z_pos}
use Rattle.buffer_heap.specs.Heaps.{Held, HeapValue}
use Rattle.phase_cells.specs.Idle.{IsAsLent, IsLending}
use Rattle.counted_code.specs.Values.{empty_heap}
use Rattle.run_store.proofs.Ends.{new_stands}
use Rattle.wl_core.specs.Machine.{CellValue}

-- one element is written
pub written : (p : ℕ) (into : List ℤ) → length into ≡ 1 → ◌≡◌ {A = CellValue} (Ok (Some (pos (p % 1000) ∷ []))) (Ok (Some (set into 0 (to_z w32 (p % 1000)))))
written p into len =
    let is : to_z w32 (p % 1000) ≡ pos (p % 1000) = to_z_pos w32 (p % 1000) (omega arith) in
    ap (λ (l : List ℤ). Ok (Some l)) (sym (one into (to_z w32 (p % 1000)) len ∙ ap (λ (z : ℤ). z ∷ []) is))
  where
    one : (xs : List ℤ) (a : ℤ) → length xs ≡ 1 → set xs 0 a ≡ a ∷ []
    one (x ∷ []) a e = refl
    one [] a e = absurd (omega arith)
    one (x ∷ y ∷ xs) a e = absurd (omega arith)

abbrev IsNothing : Option Held → Type 0
IsNothing None = Unit {0}
IsNothing (Some x) = ⊥

-- a heap that was just made lends what it has
pub lends_nothing : (lends : HeapValue) → lends ≡ record { places = []; births = 0; taken = 0; given = 0; reused = 0 } → IsLending (λ m. IsAsLent lends m) lends
lends_nothing lends is = subst (λ (h : HeapValue). IsLending (λ m. IsAsLent h m) h) (sym is) (record { before = empty_heap; stands = new_stands.all; opens_first = none })
  where
    none : IsAsLent (record { places = []; births = 0; taken = 0; given = 0; reused = 0 }) empty_heap
    none b x there = absurd (subst IsNothing there tt)
