-- What a contract sees of buffers that are lent, and of a store.
use Rattle.std.specs.Prelude.{◌≡◌, ℕ, ℤ, ◌+◌, ◌-◌, List, [], ◌∷◌, length, slice_index_or, slice_set, Option, cond, nat_eq, map}
use Rattle.buffer_heap.specs.Heaps.{Held, HeapValue, count_of}
use Rattle.count_table.specs.Seats.{PhaseId, WorkerState}
use Rattle.buffer_parts.specs.Spans.{Span}
use Rattle.count_table.specs.Views.{times, without}

-- what the table of a phase has for a chunk: the part of a buffer that it fills. A fold has none
abbrev pub ChunkPart : Type 0
ChunkPart = Option (Span ℤ)

-- the heap that lends, the seat, and how often it holds the buffer at each place
pub record LentValue : Type 0 where
  pub heap : HeapValue
  pub seat : WorkerState ChunkPart
  pub holds : List ℕ

abbrev pub lent_value : HeapValue → WorkerState ChunkPart → List ℕ → LentValue
lent_value heap seat holds = record { heap = heap; seat = seat; holds = holds }

abbrev pub holds_at : LentValue → ℕ → ℕ
holds_at l b = slice_index_or l.holds b 0

-- the seat is one of the phase, which has a count for each place, and the holds are the seat's
pub record IsCounted (heap : HeapValue) (phase : PhaseId ChunkPart) (seat : WorkerState ChunkPart) (holds : List ℕ) (all : ℕ) : Type 0 where
  pub phase_is : seat.phase ≡ phase
  pub places : phase.buffers ≡ length heap.places
  pub each : length holds ≡ length heap.places
  pub held : (b : ℕ) → times b seat.holds ≡ slice_index_or holds b 0
  pub all_are : length seat.holds ≡ all

-- the buffer at a place is held once more, or once less
abbrev pub held_once_more : LentValue → ℕ → LentValue
held_once_more l b =
    record { heap = l.heap; seat = record l.seat { holds = b ∷ l.seat.holds }; holds = slice_set l.holds b (slice_index_or l.holds b 0 + 1) }

abbrev pub held_once_less : LentValue → ℕ → LentValue
held_once_less l b =
    record { heap = l.heap; seat = record l.seat { holds = without b l.seat.holds }; holds = slice_set l.holds b (slice_index_or l.holds b 0 - 1) }

-- the heap that lends and the seat as it was when it held nothing
pub record Lender : Type 0 where
  pub heap : HeapValue
  pub seat : WorkerState ChunkPart

abbrev pub lender_as : LentValue → Lender
lender_as l = record { heap = l.heap; seat = record l.seat { holds = [] } }

-- what a phase is opened with: the count of the buffer at each place, and 1 where there is none
abbrev pub opening_count : Option Held → ℕ
opening_count x = cond (nat_eq (count_of x) 0) 1 (count_of x)

abbrev pub opening_counts : HeapValue → List ℕ
opening_counts h = map opening_count h.places
