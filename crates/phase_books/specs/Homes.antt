-- What the workers of a phase leave.
use Rattle.std.specs.Prelude.{◌≡◌, ℕ, ◌+◌, ◌%◌, ◌^◌, List, [], ℤ, None, Result, Ok, Err}
use Rattle.buffer_heap.specs.Heaps.{HeapValue, at}
use Rattle.sac_base.specs.declared.op.Op.{Op}
use Rattle.wl_core.specs.Machine.{CellValue}
use Rattle.sac_base.specs.declared.stop.Stop.{Stop}
use Rattle.sac_base.specs.declared.stop.Stop.TheVariants.{Faulted, Memory}
use Rattle.index_cutter.specs.Cuts.{chunks_of}
use Rattle.phase_team.specs.Endings.{IsArray, IsCombined}
use Rattle.phase_draws.specs.Endings.{IsTallied, one_phase}
use Rattle.phase_count.specs.Tallies.{PhaseNumbers, counted_in}
use Rattle.phase_count.specs.declared.OpenTally.{OpenTally}
use Rattle.phase_books.specs.declared.results.Books.{Books}

-- The heap that goes on behind the one that lends has no buffer. So many buffers were taken and given back behind it: their numbers are counted
-- exactly, all else modulo 2^64.
pub record IsBehind (lends : HeapValue) (n : ℕ) (home : HeapValue) : Type 0 where
  pub empty : (b : ℕ) → at home b ≡ None
  pub births : home.births ≡ lends.births + n
  pub taken : home.taken % 2 ^ 64 ≡ n % 2 ^ 64
  pub given : home.given % 2 ^ 64 ≡ n % 2 ^ 64
  pub reused : home.reused % 2 ^ 64 ≡ 0

-- a heap that goes on behind the one that lends, before any cell
abbrev pub new_behind : HeapValue → HeapValue
new_behind lends = record { places = []; births = lends.births; taken = 0; given = 0; reused = 0 }

-- what the workers leave in a heap, where no cell has stopped
abbrev pub left_in : HeapValue → Result (Unit {0}) Stop → Result HeapValue Stop
left_in home (Ok done) = Ok home
left_in home (Err stop) = Err stop

-- the main heap once it has taken over the workers' heap
abbrev pub handed : HeapValue → HeapValue → HeapValue
handed h home =
    record h {
      births = home.births;
      taken = (h.taken + home.taken) % 2 ^ 64;
      given = (h.given + home.given) % 2 ^ 64;
      reused = (h.reused + home.reused) % 2 ^ 64;
    }

-- there are the elements of all cells in order, and such a heap; or the fault is that of the least position that faults
abbrev pub ComputesAll : List CellValue → HeapValue → ℕ → List ℤ → Result HeapValue Stop → Type 0
ComputesAll cells lends n elements (Ok home) = IsArray cells elements (Ok tt) × IsBehind lends n home
ComputesAll cells lends n elements (Err stop) = IsArray cells elements (Err stop)

-- the same of the neutral value, which is taken once, combined with the cells that are held
abbrev pub CombinesAll : Op → List CellValue → HeapValue → ℕ → List ℤ → List ℤ → Result HeapValue Stop → Type 0
CombinesAll op cells lends n neutral value (Ok home) = IsCombined op cells neutral value (Ok tt) × IsBehind lends n home
CombinesAll op cells lends n neutral value (Err stop) = IsCombined op cells neutral value (Err stop)

-- there is no fault
abbrev pub OrNoMemory : {A : Type 0} → Result A Stop → Type 0
OrNoMemory (Ok a) = Unit {0}
OrNoMemory (Err Memory) = Unit {0}
OrNoMemory (Err (Faulted fault)) = ⊥

-- ---- the tally

-- how many chunks a phase of so many positions has
abbrev pub chunks_in : OpenTally → ℕ → ℕ
chunks_in o positions = chunks_of o.cutting.workers o.cutting.chunk positions

-- one phase of so many positions was closed into the tally, after a fault too, and all its chunks were drawn
pub record IsBooked (positions : ℕ) (before after : Books) (end : Result (Unit {0}) Stop) : Type 0 where
  pub tally : IsTallied (chunks_in before.count positions) before.count.tally after.count.tally end
  pub begun : after.count.before ≡ before.count.before

-- once one phase more is closed into it, the tally has so many
abbrev pub WillHave : ℕ → OpenTally → PhaseNumbers → Type 0
WillHave positions o p = one_phase (chunks_in o positions) o.tally ≡ counted_in o.before.phases o.before.draws p

-- the tally has so many
abbrev pub Has : OpenTally → PhaseNumbers → Type 0
Has o p = o.tally ≡ counted_in o.before.phases o.before.draws p
