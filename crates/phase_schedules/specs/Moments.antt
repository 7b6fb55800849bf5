-- A phase between two steps of its threads: the shared table, and what the workers have made of the cells.
use Rattle.std.specs.Prelude.{ℕ, ◌+◌, Bool, true, false, ℤ, List, [], ◌∷◌, ◌++◌, map}
use Rattle.std.specs.declared.option.Option.{Option}
use Rattle.std.specs.declared.option.Option.TheVariants.{None, Some}
use Rattle.atomic_table.specs.Table.{State, opening}
use Rattle.wl_core.specs.Machine.{SetupValue, StateValue, chunks, first, gather, put, store, opened as opened_state}
use Rattle.count_table.specs.declared.view.View.{View}
use Rattle.count_table.specs.declared.view.View.TheVariants.{Frame}
use Rattle.count_table.specs.Opening.{opened}

-- How chunks get to workers: a worker draws them from the table, or they are assigned beside it, so that a draw means nothing
pub data Scheduling : Type 0 where
  Dynamic : Scheduling
  Static : Scheduling

-- The cells so far. Nothing of this stands in the table
pub record Work : Type 0 where
  -- of each chunk its next position, and whether the cell there was met and faults
  pub next : ℕ → ℕ
  pub stopped : ℕ → Bool
  -- the workers that wrote each position, one for each time
  pub written : ℕ → List ℕ
  -- the stored cell of each position, and the partial value of each worker
  pub stored : ℕ → Option (List ℤ)
  pub partial : ℕ → Option (List ℤ)

abbrev pub Table : Type 0 → Type 0
Table T = State (Option T) (View T)

pub record Moment (T : Type 0) : Type 0 where
  pub table : Table T
  -- the workers to which chunks were assigned beside the table, in the order of the chunks
  pub assigned : List ℕ
  pub work : Work

abbrev pub untouched : SetupValue → Work
untouched u = record { next = first u; stopped = λ c. false; written = λ p. []; stored = λ p. None; partial = λ w. None }

-- what `open_parts` gives: the first chunk number and the counts, the parts, and the frame's seat alone. No cell was touched
abbrev pub open_moment : {T : Type 0} → SetupValue → List T → Moment T
open_moment u parts = record { table = opening (0 ∷ u.counts) (map Some parts) (Frame (opened u.counts parts)); assigned = []; work = untouched u }

-- the worker n writes the next cell of the chunk c, or meets a cell there that faults
abbrev pub wrote : SetupValue → Work → ℕ → ℕ → Option (List ℤ) → Work
wrote u k n c value = record {
  next = put k.next c (k.next c + 1);
  stopped = k.stopped;
  written = put k.written (k.next c) (k.written (k.next c) ++ n ∷ []);
  stored = store u.job k.stored (k.next c) value;
  partial = gather u.job k.partial n value;
}

abbrev pub met_fault : Work → ℕ → Work
met_fault k c = record k { stopped = put k.stopped c true }

-- the cells as a state of the machine in which every chunk was taken. A verdict asks for no more of a state
abbrev pub ending : SetupValue → Work → StateValue
ending u k = record (opened_state u) {
  taken = chunks u;
  next = k.next;
  stopped = k.stopped;
  written = k.written;
  stored = k.stored;
  partial = k.partial;
}
