-- The workers of a phase in any order: each draws a chunk where it has none, writes the cells of its chunk one after another, and stops at a fault.
use Rattle.std.specs.Prelude.{◌≡◌, ℕ, ◌<◌, ◌≤◌, ◌⊎◌, true}
use Rattle.wl_core.specs.declared.events.Event.{Event}
use Rattle.wl_core.specs.declared.events.Event.TheVariants.{Draw, Keep, Release, Write, Stop}
use Rattle.wl_core.specs.Machine.{SetupValue, StateValue, Steps, Works, chunks}

-- the worker draws a chunk, writes a cell or stops
abbrev pub IsActOf : ℕ → Event → Type 0
IsActOf w (Draw v) = v ≡ w
IsActOf w (Write v) = v ≡ w
IsActOf w (Stop v) = v ≡ w
IsActOf w (Keep v b) = ⊥
IsActOf w (Release v b) = ⊥

-- an act of the worker is an event that the machine accepts
abbrev pub CanAct : SetupValue → StateValue → ℕ → Type 0
CanAct u s w = (e : Event) × (t : StateValue) × IsActOf w e × Steps u s e t

-- the worker is through: it has no chunk that has neither ended nor stopped, and there is none to be drawn, or a chunk has stopped
pub record IsThrough (u : SetupValue) (s : StateValue) (w : ℕ) : Type 0 where
  pub idle : (c : ℕ) → ¬ Works u s w c
  pub none_left : (chunks u ≤ s.taken) ⊎ ((c : ℕ) × (c < s.taken) × (s.stopped c ≡ true))

abbrev pub AllThrough : SetupValue → StateValue → Type 0
AllThrough u s = (w : ℕ) → w < u.workers → IsThrough u s w
