-- What each step on a phase's table tells: of the step, the seat before, the number found and the seat after.
use Rattle.std.specs.Prelude.{◌≡◌, ℕ, ◌+◌, ◌-◌, ◌<◌, ◌≤◌, cond, true, false, nat_lt, List, [], ◌∷◌, ◌++◌, map, length, slice_get}
use Rattle.std.specs.declared.option.Option.{Option}
use Rattle.atomic_table.specs.Table.{Me, Step}
use Rattle.count_table.specs.declared.view.FrameView.{FrameView}
use Rattle.count_table.specs.declared.view.WorkerView.{WorkerView}
use Rattle.count_table.specs.declared.view.View.{View}
use Rattle.count_table.specs.declared.view.View.TheVariants.{Frame, Worker, Spent}
use Rattle.count_table.specs.Views.{times, without, worker_of, frame_of}

abbrev pub Seat : Type 0 → Type 0
Seat T = Me (Option T) (View T)

-- a worker that found the next number n
abbrev pub after_draw : {T : Type 0} → WorkerView T → ℕ → WorkerView T
after_draw w n = cond (nat_lt n (length w.parts)) (record w { drawn = w.drawn ++ n ∷ [] }) (record w { ended = true })

abbrev pub after_keep : {T : Type 0} → WorkerView T → ℕ → WorkerView T
after_keep w b = record w { holds = b ∷ w.holds }

abbrev pub after_release : {T : Type 0} → WorkerView T → ℕ → WorkerView T
after_release w b = record w { holds = without b w.holds }

-- the slots of a worker, after it found the next number n
abbrev pub slots_after : {T : Type 0} → WorkerView T → List (ℕ × Option T) → ℕ → List (ℕ × Option T)
slots_after w held n = cond (nat_lt n (length w.parts)) ((n, slice_get w.parts n) ∷ held) held

module _ {T : Type 0} where
  -- the number found is above each chunk that the seat had drawn
  abbrev pub Draws : Step (Option T) → Seat T → ℕ → Seat T → Type 0
  Draws st m n k = (k ≡ (Worker (after_draw (worker_of m.0) n), slots_after (worker_of m.0) m.1 n)) × ((c : ℕ) → 0 < times c (worker_of m.0).drawn → c < n)

  abbrev pub Keeping : Step (Option T) → Seat T → ℕ → Seat T → Type 0
  Keeping st m n k = k ≡ (Worker (after_keep (worker_of m.0) (st.word - 1)), m.1)

  -- the count found is at least 2, so the buffer is not freed
  abbrev pub Releasing : Step (Option T) → Seat T → ℕ → Seat T → Type 0
  Releasing st m n k = (k ≡ (Worker (after_release (worker_of m.0) (st.word - 1)), m.1)) × (2 ≤ n)

  abbrev pub Looking : Step (Option T) → Seat T → ℕ → Seat T → Type 0
  Looking st m n k = (k ≡ m) × (2 ≤ n)

-- a frame with one more worker, and that worker
abbrev pub seated : {T : Type 0} → FrameView T → FrameView T
seated f = record f { made = f.made + 1; out = f.out + 1 }

abbrev pub fresh : {T : Type 0} → FrameView T → WorkerView T
fresh f = record { parts = f.parts; buffers = length f.opening; number = f.made; holds = []; drawn = []; ended = false }

-- a frame that a worker came back to
abbrev pub joined : {T : Type 0} → FrameView T → WorkerView T → FrameView T
joined f w = record f { out = f.out - 1; drawn = f.drawn ++ map (λ c. (c, w.number)) w.drawn; nones = f.nones + cond w.ended 1 0 }

abbrev pub left_of : {T : Type 0} → View T → View T
left_of v = Frame (seated (frame_of v))

abbrev pub right_of : {T : Type 0} → View T → View T
right_of v = Worker (fresh (frame_of v))

abbrev pub both_of : {T : Type 0} → View T → View T → View T
both_of v w = Frame (joined (frame_of v) (worker_of w))

-- a worker's view goes to a new seat, and the slots stay with the old one
abbrev pub moved_left : {T : Type 0} → View T → View T
moved_left v = Spent

abbrev pub moved_right : {T : Type 0} → View T → View T
moved_right v = v
