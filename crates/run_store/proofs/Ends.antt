-- How a main thread's stores begin, and what they have counted.
use Rattle.std.proofs.Common.{◌≡◌, ℕ, [], ◌%◌, ◌^◌, refl, Option, Some, None, subst}
use Rattle.buffer_heap.specs.Heaps.{HeapValue}
use Rattle.counted_code.specs.Values.{Heap, empty_heap}
use Rattle.run_store.specs.Lents.{LentValue, Lender}
use Rattle.run_store.specs.Stands.{Stands, lender_in, lender_of, with_lent}
use Rattle.run_store.specs.declared.store.Store.{Store}
use Rattle.run_store.proofs.Opening.{main_stands}

abbrev IsNothing : {A : Type 0} → Option A → Type 0
IsNothing None = Unit {0}
IsNothing (Some x) = ⊥

nothing_there : {A B : Type 0} (x : B) → None ≡ Some x → A
nothing_there x p = elim (subst IsNothing p tt) [ ]

-- a heap with no buffer that has counted nothing
abbrev no_heap : HeapValue
no_heap = record { places = []; births = 0; taken = 0; given = 0; reused = 0 }

pub new_stands : Stands (record { own = no_heap; lent = None }) empty_heap
new_stands = main_stands no_heap empty_heap (record {
  stored = λ b x is. nothing_there x is;
  single = λ b c x y p q same. nothing_there x p;
  births = refl;
  taken = refl;
  given = refl;
  reused = refl;
})

abbrev IsLent : Option Lender → Type 0
IsLent None = ⊥
IsLent (Some x) = Unit {0}

-- the own counters are all where nothing is lent
none_lent : (o : Option LentValue) (counter : HeapValue → ℕ) (n : ℕ) → lender_in o ≡ None → with_lent o counter n ≡ n
none_lent None counter n none = refl
none_lent (Some l) counter n none = elim (subst (λ (o : Option Lender). IsLent o) none tt) [ ]

pub taken_stands : (s : Store) (m : Heap) → lender_of s ≡ None → Stands s m → s.own.taken ≡ m.taken % 2 ^ 64
taken_stands s m none stands = subst (λ n. n ≡ m.taken % 2 ^ 64) (none_lent s.lent (λ h. h.taken) s.own.taken none) stands.all.taken

pub reused_stands : (s : Store) (m : Heap) → lender_of s ≡ None → Stands s m → s.own.reused ≡ m.reused % 2 ^ 64
reused_stands s m none stands = subst (λ n. n ≡ m.reused % 2 ^ 64) (none_lent s.lent (λ h. h.reused) s.own.reused none) stands.all.reused
