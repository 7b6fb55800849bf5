-- Values, the heap of buffers, and steps that change it.
use Rattle.std.specs.Prelude.{ℕ, zero, suc, ◌+◌, Bool, true, false, nat_le, List, [], ◌∷◌, ◌++◌, length, ℤ, Option, Some, None, Ok, Err}
use Rattle.std.specs.Prelude.{slice_index_or, slice_set}
use Rattle.sac_base.specs.declared.base.Base.{Base}
use Rattle.sac_base.specs.declared.faults.Fault.{Fault}
use Rattle.sac_base.specs.declared.faults.FaultKind.{FaultKind}
use Rattle.sac_base.specs.declared.faults.FaultKind.TheVariants.{F3}
use Rattle.sac_base.specs.declared.site.Site.{Site}
use Rattle.sac_base.specs.Arrays.{ArrayValue}
use Rattle.sac_base.specs.Outcomes.{Ends}

-- ---- values and the heap

-- a buffer: how many references lead to it, 0 once it was given back, and its cells
pub record Buffer : Type 0 where
  pub count : ℕ
  pub cells : List ℤ

abbrev pub no_buffer : Buffer
no_buffer = record { count = 0; cells = [] }

-- all buffers that were taken, the first one first; the numbers of those taken, given back and reused; and the number of positions of each phase
pub record Heap : Type 0 where
  pub buffers : List Buffer
  pub taken : ℕ
  pub given : ℕ
  pub reused : ℕ
  pub phases : List ℕ

abbrev pub empty_heap : Heap
empty_heap = record { buffers = []; taken = 0; given = 0; reused = 0; phases = [] }

-- a word or a short vector, which the value holds itself; or a reference to a buffer, with the array's base and shape
pub data Value : Type 0 where
  Small : (array : ArrayValue) → Value
  Ref : (place : ℕ) (base : Base) (shape : List ℕ) → Value

-- arrays of this shape are words, or vectors of at most 8 elements
abbrev pub is_small : List ℕ → Bool
is_small [] = true
is_small (n ∷ []) = nat_le n 8
is_small (m ∷ (n ∷ ns)) = false

abbrev pub buffer_at : Heap → ℕ → Buffer
buffer_at heap buffer = slice_index_or heap.buffers buffer no_buffer

abbrev pub count_of : Heap → ℕ → ℕ
count_of heap buffer = (buffer_at heap buffer).count

abbrev pub cells_of : Heap → ℕ → List ℤ
cells_of heap buffer = (buffer_at heap buffer).cells

-- the array that a value is in a heap
abbrev pub read : Heap → Value → ArrayValue
read heap (Small a) = a
read heap (Ref buffer base shape) = record { base = base; shape = shape; cells = cells_of heap buffer }

-- ---- changes of the heap

abbrev pub with_buffer : Heap → ℕ → Buffer → Heap
with_buffer heap buffer x = record heap { buffers = slice_set heap.buffers buffer x }

abbrev pub with_count : Heap → ℕ → ℕ → Heap
with_count heap buffer n = with_buffer heap buffer (record { count = n; cells = cells_of heap buffer })

abbrev pub with_cells : Heap → ℕ → List ℤ → Heap
with_cells heap buffer xs = with_buffer heap buffer (record { count = count_of heap buffer; cells = xs })

-- one reference more
abbrev pub keep : Value → Heap → Heap
keep (Small a) heap = heap
keep (Ref buffer base shape) heap = with_count heap buffer (count_of heap buffer + 1)

-- a buffer with so many references loses one; with its last reference it is given back, and its cells are gone
abbrev pub release_count : ℕ → ℕ → Heap → Heap
release_count buffer zero heap = heap
release_count buffer (suc zero) heap = record (with_buffer heap buffer no_buffer) { given = heap.given + 1 }
release_count buffer (suc (suc n)) heap = with_count heap buffer (suc n)

-- one reference less
abbrev pub release : Value → Heap → Heap
release (Small a) heap = heap
release (Ref buffer base shape) heap = release_count buffer (count_of heap buffer) heap

abbrev pub release_all : List Value → Heap → Heap
release_all [] heap = heap
release_all (v ∷ vs) heap = release_all vs (release v heap)

-- a new buffer with one reference
abbrev pub take_buffer : List ℤ → Heap → Heap
take_buffer xs heap = record heap { buffers = heap.buffers ++ record { count = 1; cells = xs } ∷ []; taken = heap.taken + 1 }

-- ---- what is done to a heap

-- an end: a value and a heap; or a fault, where all buffers are given back and only the phases are left
pub data Ended (A : Type 0) : Type 0 where
  Done : (value : A) (heap : Heap) → Ended A
  Failed : (why : Fault) (phases : List ℕ) → Ended A

abbrev pub Doing : Type 0 → Type 0
Doing A = Heap → Ended A

abbrev pub give : {A : Type 0} → A → Doing A
give a heap = Done a heap

abbrev pub go_on : {A B : Type 0} → Ended A → (A → Doing B) → Ended B
go_on (Done a heap) next = next a heap
go_on (Failed f phases) next = Failed f phases

-- one after another, up to the first fault
abbrev pub then_go : {A B : Type 0} → Doing A → (A → Doing B) → Doing B
then_go first next heap = go_on (first heap) next

-- a value or a fault that changes nothing
abbrev pub pure_end : {A : Type 0} → Ends A → Doing A
pure_end (Ok a) heap = Done a heap
pure_end (Err f) heap = Failed f heap.phases

abbrev pub fails : {A : Type 0} → FaultKind → Site → Doing A
fails kind site heap = Failed (record { kind = kind; site = site }) heap.phases

-- goes on by what a condition says
abbrev pub choose_does : {A : Type 0} → Site → Option Bool → Doing A → Doing A → Doing A
choose_does site None first second = fails F3 site
choose_does site (Some true) first second = first
choose_does site (Some false) first second = second

abbrev pub phases_as : {A : Type 0} → List ℕ → Ended A → Ended A
phases_as n (Done a heap) = Done a (record heap { phases = n })
phases_as n (Failed f m) = Failed f n

-- the same, but with-loops within it are no phases
abbrev pub apart : {A : Type 0} → Doing A → Doing A
apart m heap = phases_as heap.phases (m heap)

-- an array as a value of its own: small, or in a new buffer
abbrev pub place_as : Bool → ArrayValue → Doing Value
place_as true a heap = Done (Small a) heap
place_as false a heap = Done (Ref (length heap.buffers) a.base a.shape) (take_buffer a.cells heap)

abbrev pub place_value : ArrayValue → Doing Value
place_value a = place_as (is_small a.shape) a

abbrev pub place_all : List ArrayValue → Doing (List Value)
place_all [] = give []
place_all (a ∷ ws) = then_go (place_value a) (λ v. then_go (place_all ws) (λ vs. give (v ∷ vs)))
