-- A phase: a with-loop's positions are cut into chunks, a chunk is taken by one worker, and a worker writes the cells of its chunk in order.
use Rattle.std.specs.Prelude.{◌≡◌, ℕ, zero, suc, ◌+◌, ◌*◌, ◌<◌, ◌≤◌, ◌/◌, ◌-◌, ◌⊎◌, min, Bool, true, false, cond, ◌==◌, ℤ, IsTrue, List, [], ◌∷◌}
use Rattle.std.specs.Prelude.{◌++◌, length, slice_index, slice_get, Option, Some, None, Ok, Err}
use Rattle.sac_base.specs.declared.faults.Fault.{Fault}
use Rattle.sac_base.specs.declared.op.Op.{Op}
use Rattle.sac_base.specs.Arrays.{IsCell, MOST}
use Rattle.sac_base.specs.Outcomes.{Ends}
use Rattle.sac_base.specs.Verdict.{each, present, joined, combined, elementwise, folds, fold_op}
use Rattle.sac_base.specs.declared.limits.TheConstants.{MOST_REFERENCES}
use Rattle.wl_core.specs.declared.limits.TheConstants.{MOST_HOLDS, MOST_WORKERS}
use Rattle.wl_core.specs.declared.setup.Job.{Job}
use Rattle.wl_core.specs.declared.setup.Job.TheVariants.{Write as Store, Fold}
use Rattle.wl_core.specs.declared.events.Event.{Event}
use Rattle.wl_core.specs.declared.events.Event.TheVariants.{Draw, Keep, Release, Write, Stop}
use Rattle.wl_core.specs.declared.events.Refused.{Refused}
use Rattle.wl_core.specs.declared.events.Refused.TheVariants.{NoChunk, HasChunk, NoOwn, AtFault, NotFault, NotHeld, NoSuch, Full}

-- what the cell of a position comes to: a fault, the elements of its value, or nothing where no generator holds the index
abbrev pub CellValue : Type 0
CellValue = Ends (Option (List ℤ))

pub record SetupValue : Type 0 where
  pub cells : List CellValue
  pub size : ℕ
  pub workers : ℕ
  pub job : Job
  pub counts : List ℕ

-- two values by the operation of a fold
abbrev pub combine : Op → List ℤ → List ℤ → List ℤ
combine op = elementwise (fold_op op)

abbrev pub IsFold : Job → Type 0
IsFold Store = ⊥
IsFold (Fold base op) = Unit {0}

-- the fold's operation takes its base
abbrev pub TakesBase : Job → Type 0
TakesBase Store = Unit {0}
TakesBase (Fold base op) = IsTrue (folds base op)

-- all elements are values of the fold's base
abbrev pub OfBase : Job → List ℤ → Type 0
OfBase Store value = Unit {0}
OfBase (Fold base op) value = (k : ℕ) (z : ℤ) → slice_get value k ≡ Some z → IsCell base z

abbrev pub CountsFit : List ℕ → Type 0
CountsFit counts = (b : ℕ) → b < length counts → (1 ≤ slice_index counts b) × (slice_index counts b ≤ MOST_REFERENCES)

-- all values have one length
abbrev pub OneLength : List CellValue → Type 0
OneLength cells = (p q : ℕ) (x y : List ℤ) → slice_get cells p ≡ Some (Ok (Some x)) → slice_get cells q ≡ Some (Ok (Some y)) → length x ≡ length y

-- what a phase may be opened with; an index that is not held stands only in a fold
pub record IsSetup (u : SetupValue) : Type 0 where
  pub size : 1 ≤ u.size
  pub positions : length u.cells ≤ MOST
  pub workers : u.workers ≤ MOST_WORKERS
  pub counts : CountsFit u.counts
  pub one_length : OneLength u.cells
  pub held : (p : ℕ) → slice_get u.cells p ≡ Some (Ok None) → IsFold u.job
  pub takes : TakesBase u.job
  pub of_base : (p : ℕ) (x : List ℤ) → slice_get u.cells p ≡ Some (Ok (Some x)) → OfBase u.job x

-- a cell of a setup whose values have this length
abbrev pub CellFits : Job → ℕ → CellValue → Type 0
CellFits job width (Ok (Some x)) = (length x ≡ width) × OfBase job x
CellFits job width (Ok None) = IsFold job
CellFits job width (Err fault) = Unit {0}

-- the positions of chunk c are those from `first u c` on, below `end u c`
abbrev pub first : SetupValue → ℕ → ℕ
first u c = c * u.size

abbrev pub end : SetupValue → ℕ → ℕ
end u c = min (c * u.size + u.size) (length u.cells)

abbrev pub chunks : SetupValue → ℕ
chunks u = (length u.cells + (u.size - 1)) / u.size

pub record StateValue : Type 0 where
  -- how many chunks are taken
  pub taken : ℕ
  -- of each taken chunk: who took it, its next position, and whether it stopped
  pub owner : ℕ → ℕ
  pub next : ℕ → ℕ
  pub stopped : ℕ → Bool
  -- the workers that wrote each position, one for each time
  pub written : ℕ → List ℕ
  -- the stored cell of each position, and the partial value of each worker
  pub stored : ℕ → Option (List ℤ)
  pub partial : ℕ → Option (List ℤ)
  -- the count of each buffer, and how often each worker holds each buffer
  pub count : ℕ → ℕ
  pub holds : ℕ → ℕ → ℕ

-- f with the value x at k
abbrev pub put : {X : Type 0} → (ℕ → X) → ℕ → X → ℕ → X
put f k x i = cond (i == k) x (f i)

-- the numbers f i of all i below n, added up
abbrev pub sum_below : (ℕ → ℕ) → ℕ → ℕ
sum_below f zero = 0
sum_below f (suc n) = sum_below f n + f n

-- the values f i of all i below n, in order
abbrev pub listed : {X : Type 0} → (ℕ → X) → ℕ → List X
listed f zero = []
listed f (suc n) = listed f n ++ f n ∷ []

-- two values, of which either may be missing
abbrev pub both : {A : Type 0} → (A → A → A) → Option A → Option A → Option A
both op None b = b
both op (Some x) None = Some x
both op (Some x) (Some y) = Some (op x y)

-- a write stores the cell, or combines it with the worker's partial value
abbrev pub store : Job → (ℕ → Option (List ℤ)) → ℕ → Option (List ℤ) → ℕ → Option (List ℤ)
store Store stored p value = put stored p value
store (Fold base op) stored p value = stored

abbrev pub gather : Job → (ℕ → Option (List ℤ)) → ℕ → Option (List ℤ) → ℕ → Option (List ℤ)
gather Store partial w value = partial
gather (Fold base op) partial w value = put partial w (both (combine op) (partial w) value)

-- the worker w took the chunk c, which has neither ended nor stopped
abbrev pub Works : SetupValue → StateValue → ℕ → ℕ → Type 0
Works u s w c = (c < s.taken) × (s.owner c ≡ w) × (s.next c < end u c) × (s.stopped c ≡ false)

-- how many holds the worker has
abbrev pub holds_of : SetupValue → StateValue → ℕ → ℕ
holds_of u s w = sum_below (s.holds w) (length u.counts)

-- what an event does, where it is accepted
abbrev pub Steps : SetupValue → StateValue → Event → StateValue → Type 0
Steps u s (Draw w) t =
    (w < u.workers) × ((c : ℕ) → ¬ Works u s w c) × (s.taken < chunks u)
    × (t ≡ record s { taken = s.taken + 1; owner = put s.owner s.taken w; next = put s.next s.taken (first u s.taken); stopped = put s.stopped s.taken false })
Steps u s (Keep w b) t =
    (w < u.workers) × (b < length u.counts) × (holds_of u s w < MOST_HOLDS)
    × (t ≡ record s { count = put s.count b (s.count b + 1); holds = put s.holds w (put (s.holds w) b (s.holds w b + 1)) })
Steps u s (Release w b) t =
    (w < u.workers) × (b < length u.counts) × (0 < s.holds w b)
    × (t ≡ record s { count = put s.count b (s.count b - 1); holds = put s.holds w (put (s.holds w) b (s.holds w b - 1)) })
Steps u s (Write w) t =
    (w < u.workers) × ((c : ℕ) × (value : Option (List ℤ)) × Works u s w c × (slice_get u.cells (s.next c) ≡ Some (Ok value))
    × (t ≡ record s {
      next = put s.next c (s.next c + 1);
      written = put s.written (s.next c) (s.written (s.next c) ++ w ∷ []);
      stored = store u.job s.stored (s.next c) value;
      partial = gather u.job s.partial w value;
    }))
Steps u s (Stop w) t =
    (w < u.workers) × ((c : ℕ) × (fault : Fault) × Works u s w c × (slice_get u.cells (s.next c) ≡ Some (Err fault))
    × (t ≡ record s { stopped = put s.stopped c true }))

-- why an event is refused: the first reason in the order of the lines
abbrev pub Refuses : SetupValue → StateValue → Event → Refused → Type 0
Refuses u s (Draw w) NoSuch = u.workers ≤ w
Refuses u s (Draw w) HasChunk = (w < u.workers) × ((c : ℕ) × Works u s w c)
Refuses u s (Draw w) NoChunk = (w < u.workers) × ((c : ℕ) → ¬ Works u s w c) × (chunks u ≤ s.taken)
Refuses u s (Keep w b) NoSuch = (u.workers ≤ w) ⊎ (length u.counts ≤ b)
Refuses u s (Keep w b) Full = (w < u.workers) × (b < length u.counts) × (MOST_HOLDS ≤ holds_of u s w)
Refuses u s (Release w b) NoSuch = (u.workers ≤ w) ⊎ (length u.counts ≤ b)
Refuses u s (Release w b) NotHeld = (w < u.workers) × (b < length u.counts) × (s.holds w b ≡ 0)
Refuses u s (Write w) NoSuch = u.workers ≤ w
Refuses u s (Write w) NoOwn = (w < u.workers) × ((c : ℕ) → ¬ Works u s w c)
Refuses u s (Write w) AtFault = (w < u.workers) × ((c : ℕ) × (fault : Fault) × Works u s w c × (slice_get u.cells (s.next c) ≡ Some (Err fault)))
Refuses u s (Stop w) NoSuch = u.workers ≤ w
Refuses u s (Stop w) NoOwn = (w < u.workers) × ((c : ℕ) → ¬ Works u s w c)
Refuses u s (Stop w) NotFault = (w < u.workers) × ((c : ℕ) × (value : Option (List ℤ)) × Works u s w c × (slice_get u.cells (s.next c) ≡ Some (Ok value)))
Refuses u s event reason = ⊥

-- nothing is taken, and the counts are those of the opening
abbrev pub opened : SetupValue → StateValue
opened u = record {
  taken = 0;
  owner = λ c. 0;
  next = λ c. 0;
  stopped = λ c. false;
  written = λ p. [];
  stored = λ p. None;
  partial = λ w. None;
  count = slice_index u.counts;
  holds = λ w b. 0;
}

abbrev pub Runs : SetupValue → StateValue → List Event → StateValue → Type 0
Runs u s [] t = s ≡ t
Runs u s (e ∷ es) t = (m : StateValue) × Steps u s e m × Runs u m es t

-- some list of events leads to the state from the opening
abbrev pub Reached : SetupValue → StateValue → Type 0
Reached u s = (es : List Event) × Runs u (opened u) es s

-- no worker holds anything
abbrev pub HoldsNothing : SetupValue → StateValue → Type 0
HoldsNothing u s = (w b : ℕ) → w < u.workers → b < length u.counts → s.holds w b ≡ 0

-- every chunk has ended, has stopped, or lies after a stopped one
abbrev pub ChunksDone : SetupValue → StateValue → Type 0
ChunksDone u s =
    (c : ℕ) → c < chunks u
    → ((c < s.taken) × (s.next c ≡ end u c)) ⊎ (((c < s.taken) × (s.stopped c ≡ true)) ⊎ ((d : ℕ) × (d < c) × (d < s.taken) × (s.stopped d ≡ true)))

abbrev pub Finished : SetupValue → StateValue → Type 0
Finished u s = HoldsNothing u s × ChunksDone u s

pub data VerdictValue : Type 0 where
  Cells : List ℤ → VerdictValue
  Partial : Option (List ℤ) → VerdictValue
  Faulted : Fault → VerdictValue

-- the held cells of a phase without faults, joined or combined
abbrev pub whole : Job → List (Option (List ℤ)) → VerdictValue
whole Store cells = Cells (joined (present cells))
whole (Fold base op) cells = Partial (combined (combine op) (present cells))

abbrev pub verdict_by : Job → Ends (List (Option (List ℤ))) → VerdictValue
verdict_by job (Ok cells) = whole job cells
verdict_by job (Err fault) = Faulted fault

-- the verdict of the cells taken one after another
abbrev pub sequential : SetupValue → VerdictValue
sequential u = verdict_by u.job (each u.cells)
