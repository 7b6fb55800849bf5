-- When the buffers of a thread stand for a heap of the machine.
use Rattle.std.specs.Prelude.{◌≡◌, ◌<◌, ◌+◌, ◌%◌, ◌^◌, ◌++◌, ℕ, List, [], ◌∷◌, ℤ, Option, Some, None, length, Result, Ok, Err, ⊤}
use Rattle.buffer_heap.specs.Heaps.{Content, In, Out, Held, HeapValue, at}
use Rattle.counted_code.specs.Values.{Buffer, Heap, Value, Ended, Done, Failed, buffer_at, place_value}
use Rattle.sac_base.specs.Arrays.{ArrayValue}
use Rattle.sac_base.specs.Outcomes.{Ends}
use Rattle.sac_base.specs.declared.stop.Stop.{Stop}
use Rattle.sac_base.specs.declared.stop.Stop.TheVariants.{Faulted, Memory}
use Rattle.run_store.specs.Lents.{LentValue, Lender, lender_as}
use Rattle.run_store.specs.declared.store.Store.{Store}
use Rattle.run_values.specs.declared.value.RunValue.{RunValue}
use Rattle.run_values.specs.Shown.{value_of}

-- the machine's buffer has these cells, or as many as are handed out
abbrev pub HasContent : Content → List ℤ → Type 0
HasContent (In cells) zs = zs ≡ cells
HasContent (Out len) zs = length zs ≡ len

abbrev pub Stored : Buffer → Held → Type 0
Stored buffer x = (buffer.count ≡ x.count) × HasContent x.content buffer.cells

-- Each live buffer is the machine's of its number, and no two have one number. The counters are the machine's modulo 2^64.
pub record StandsFor (h : HeapValue) (m : Heap) : Type 0 where
  pub stored : (b : ℕ) (x : Held) → at h b ≡ Some x → Stored (buffer_at m x.born) x × (x.born < length m.buffers)
  pub single : (b c : ℕ) (x y : Held) → at h b ≡ Some x → at h c ≡ Some y → x.born ≡ y.born → b ≡ c
  pub births : h.births ≡ length m.buffers
  pub taken : h.taken ≡ m.taken % 2 ^ 64
  pub given : h.given ≡ m.given % 2 ^ 64
  pub reused : h.reused ≡ m.reused % 2 ^ 64

-- a buffer with so many references more
abbrev pub with_more : ℕ → Option Held → Option Held
with_more n None = None
with_more n (Some x) = Some (record x { count = x.count + n })

-- what stands at each place, where this often each buffer is held besides
abbrev pub raised : List (Option Held) → List ℕ → List (Option Held)
raised [] ns = []
raised (x ∷ xs) [] = with_more 0 x ∷ raised xs []
raised (x ∷ xs) (n ∷ ns) = with_more n x ∷ raised xs ns

-- the buffers that are lent, with the references that the seat holds
abbrev pub lent_places : Option LentValue → List (Option Held)
lent_places None = []
lent_places (Some l) = raised l.heap.places l.holds

-- a counter of the heap that lends, and one more, modulo 2^64
abbrev pub with_lent : Option LentValue → (HeapValue → ℕ) → ℕ → ℕ
with_lent None counter n = n
with_lent (Some l) counter n = (counter l.heap + n) % 2 ^ 64

-- all buffers as those of one heap, which has counted what both heaps have
abbrev pub whole : Store → HeapValue
whole s = record {
  places = lent_places s.lent ++ s.own.places;
  births = s.own.births;
  taken = with_lent s.lent (λ h. h.taken) s.own.taken;
  given = with_lent s.lent (λ h. h.given) s.own.given;
  reused = with_lent s.lent (λ h. h.reused) s.own.reused;
}

-- the store stands for a heap of the machine
pub record Stands (s : Store) (m : Heap) : Type 0 where
  pub all : StandsFor (whole s) m

abbrev pub lender_in : Option LentValue → Option Lender
lender_in None = None
lender_in (Some l) = Some (lender_as l)

-- what stays of a store, whatever is done
abbrev pub lender_of : Store → Option Lender
lender_of s = lender_in s.lent

-- the machine has this value, and the store stands for its heap
abbrev pub Placed : RunValue → Store → Ended Value → Type 0
Placed v s (Done w k) = (value_of v ≡ w) × Stands s k
Placed v s (Failed f phases) = ⊥

-- the answer is what is meant, an array that is placed or a fault; want of memory says nothing
abbrev pub TellsPlaced : Result RunValue Stop → Store → Heap → Ends ArrayValue → Type 0
TellsPlaced (Ok v) s m (Ok a) = Placed v s (place_value a m)
TellsPlaced (Err (Faulted f)) s m (Err g) = f ≡ g
TellsPlaced (Err Memory) s m meant = ⊤
TellsPlaced _ _ _ _ = ⊥
