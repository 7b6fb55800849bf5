-- What stands in the views of a phase's seats.
use Rattle.std.specs.Prelude.{ℕ, ◌+◌, ◌==◌, false, cond, List, [], ◌∷◌, length, map}
use Rattle.count_table.specs.declared.view.FrameView.{FrameView}
use Rattle.count_table.specs.declared.view.WorkerView.{WorkerView}
use Rattle.count_table.specs.declared.view.View.{View}
use Rattle.count_table.specs.declared.view.View.TheVariants.{Frame, Worker, Spent}

-- how often x stands in xs
abbrev pub times : ℕ → List ℕ → ℕ
times x [] = 0
times x (y ∷ ys) = cond (y == x) 1 0 + times x ys

-- xs without its first x
abbrev pub without : ℕ → List ℕ → List ℕ
without x [] = []
without x (y ∷ ys) = cond (y == x) ys (y ∷ without x ys)

-- f of each view, added up
abbrev pub total : {V : Type 0} → (V → ℕ) → List V → ℕ
total f [] = 0
total f (v ∷ vs) = f v + total f vs

-- the chunks that a view has
abbrev pub drawn_of : {T : Type 0} → View T → List ℕ
drawn_of (Frame f) = map (λ p. p.0) f.drawn
drawn_of (Worker w) = w.drawn
drawn_of Spent = []

-- how many draws a view has that found no chunk left
abbrev pub nones_of : {T : Type 0} → View T → ℕ
nones_of (Frame f) = f.nones
nones_of (Worker w) = cond w.ended 1 0
nones_of Spent = 0

-- how often a view holds the buffer b
abbrev pub holds_of : {T : Type 0} → ℕ → View T → ℕ
holds_of b (Frame f) = 0
holds_of b (Worker w) = times b w.holds
holds_of b Spent = 0

-- 1 for a worker's view
abbrev pub is_out : {T : Type 0} → View T → ℕ
is_out (Frame f) = 0
is_out (Worker w) = 1
is_out Spent = 0

-- 1 for the view of the worker n
abbrev pub has_number : {T : Type 0} → ℕ → View T → ℕ
has_number n (Frame f) = 0
has_number n (Worker w) = cond (w.number == n) 1 0
has_number n Spent = 0

-- how often the chunk x stands in all views
abbrev pub drawn_times : {T : Type 0} → ℕ → List (View T) → ℕ
drawn_times x vs = total (λ v. times x (drawn_of v)) vs

-- how many chunks stand in all views
abbrev pub drawn_count : {T : Type 0} → List (View T) → ℕ
drawn_count vs = total (λ v. length (drawn_of v)) vs

-- how many draws of all views found no chunk left
abbrev pub none_count : {T : Type 0} → List (View T) → ℕ
none_count vs = total nones_of vs

-- the parts of a view of the one kind or the other, and of no use at another kind
abbrev pub worker_of : {T : Type 0} → View T → WorkerView T
worker_of (Frame f) = record { parts = []; buffers = 0; number = 0; holds = []; drawn = []; ended = false }
worker_of (Worker w) = w
worker_of Spent = record { parts = []; buffers = 0; number = 0; holds = []; drawn = []; ended = false }

abbrev pub frame_of : {T : Type 0} → View T → FrameView T
frame_of (Frame f) = f
frame_of (Worker w) = record { opening = []; parts = []; made = 0; out = 0; drawn = []; nones = 0 }
frame_of Spent = record { opening = []; parts = []; made = 0; out = 0; drawn = []; nones = 0 }
