-- Cells in chunks, each of which is run from the same heap, with numbers of its own.
use Rattle.std.specs.Prelude.{◌≡◌, ℕ, ◌+◌, List, [], ◌∷◌, ◌++◌, length, take, drop, ℤ, Option, Ok, Err}
use Rattle.sac_base.specs.declared.faults.Fault.{Fault}
use Rattle.sac_base.specs.declared.form.Form.{Form}
use Rattle.sac_base.specs.Arrays.{ArrayValue}
use Rattle.sac_base.specs.Outcomes.{Ends}
use Rattle.counted_code.specs.Loops.{Source, Writing, cells_do}
use Rattle.counted_code.specs.Values.{Heap, Ended, Done, Failed, Doing}
use Rattle.phase_laws.specs.Numbers.{afresh, with_more}

-- a list in pieces of these lengths; where more is left, that is a piece too
abbrev pub pieces : {A : Type 0} → List ℕ → List A → List (List A)
pieces [] [] = []
pieces [] (x ∷ xs) = (x ∷ xs) ∷ []
pieces (n ∷ ns) xs = take n xs ∷ pieces ns (drop n xs)

-- what chunks come to: the cells, and how many buffers were taken, given back and reused; or a fault
pub data Ran : Type 0 where
  Found : (cells : List (Option ArrayValue)) (taken given reused : ℕ) → Ran
  Stopped : (why : Fault) → Ran

abbrev pub ran : Ended (List (Option ArrayValue)) → Ran
ran (Done cs h) = Found cs h.taken h.given h.reused
ran (Failed f phases) = Stopped f

-- one after the other in the order of positions; of two faults the first counts
abbrev pub beside : Ran → Ran → Ran
beside (Stopped f) later = Stopped f
beside (Found cs t g r) (Stopped f) = Stopped f
beside (Found cs t g r) (Found ds u k s) = Found (cs ++ ds) (t + u) (g + k) (r + s)

-- the cells of chunks of indices, of which the first stands at a place
abbrev pub chunks_run : Form → (List ℤ → Option Source) → Writing → ℕ → List (List (List ℤ)) → Heap → Ran
chunks_run form source writing k [] h = Found [] 0 0 0
chunks_run form source writing k (vs ∷ chunks) h =
    beside (ran (cells_do form source writing k vs (afresh h))) (chunks_run form source writing (k + length vs) chunks h)

-- the heap gets the numbers, and is else as it was
abbrev pub absorbed : Heap → Ran → Ended (List (Option ArrayValue))
absorbed h (Found cs t g r) = Done cs (with_more t g r h)
absorbed h (Stopped f) = Failed f h.phases

abbrev pub chunks_do : Form → (List ℤ → Option Source) → Writing → ℕ → List (List (List ℤ)) → Doing (List (Option ArrayValue))
chunks_do form source writing k chunks h = absorbed h (chunks_run form source writing k chunks h)

-- these cells or this fault, where so many buffers were taken, and as many given back
abbrev pub RanAs : ℕ → Ran → Ends (List (Option ArrayValue)) → Type 0
RanAs n (Found cs t g r) (Ok ds) = (cs ≡ ds) × (t ≡ n) × (g ≡ n) × (r ≡ 0)
RanAs n (Stopped f) (Err e) = f ≡ e
RanAs _ _ _ = ⊥

-- without a fault there are so many values
abbrev pub GivesAsMany : {A : Type 0} → ℕ → Ended (List A) → Type 0
GivesAsMany n (Done xs h) = length xs ≡ n
GivesAsMany n (Failed f phases) = Unit {0}
