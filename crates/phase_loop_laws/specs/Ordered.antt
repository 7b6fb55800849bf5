-- What the workers of a phase compute, and what the machine does in order.
use Rattle.std.specs.Prelude.{◌≡◌, ℕ, ◌+◌, ◌≤◌, ◌||◌, Bool, true, not, List, ℤ, length, Option, None}
use Rattle.sac_base.specs.declared.form.Form.{Form}
use Rattle.sac_base.specs.Arrays.{ArrayValue, size}
use Rattle.sac_base.specs.Outcomes.{Ends}
use Rattle.counted_code.specs.Loops.{Source, Job, Claimed, claim, count_phase, settled}
use Rattle.counted_code.specs.Values.{Heap, Value, Ended, Done, is_small, count_of, buffer_at}
use Rattle.counted_laws.specs.Simulation.{live}
use Rattle.phase_laws.specs.Alone.{StandAlone}
use Rattle.phase_laws.specs.Growing.{SourceGrows}
use Rattle.phase_laws.specs.Numbers.{SourceIsBlind}

-- ---- cells

-- the heap with as many buffers taken as were given back or have references
abbrev pub balanced : Heap → Heap
balanced h = record h { taken = h.given + live h.buffers }

-- From this heap on the cell at each index is the given one and takes so many buffers, whatever else there is in the heap. The numbers of the heap
-- have no say in it, and each buffer that it takes has a place of its own.
pub record StandsAlone (h : Heap) (form : Form) (source : List ℤ → Option Source) (cell : List ℤ → Ends (Option ArrayValue)) (takes : List ℤ → ℕ) : Type 0 where
  pub alone : StandAlone (λ b. count_of h b) (balanced h) form source cell takes
  pub blind : (v : List ℤ) → SourceIsBlind (source v)
  pub grows : (v : List ℤ) → SourceGrows (source v)

-- n buffers were taken and given back, each at a place of its own; those with references are as they were, and no other has any
pub record Passed (n : ℕ) (h k : Heap) : Type 0 where
  pub taken : k.taken ≡ h.taken + n
  pub given : k.given ≡ h.given + n
  pub reused : k.reused ≡ h.reused
  pub phases : k.phases ≡ h.phases
  pub places : length k.buffers ≡ length h.buffers + n
  pub counts : (b : ℕ) → count_of k b ≡ count_of h b
  pub buffers : (b : ℕ) → 1 ≤ count_of h b → buffer_at k b ≡ buffer_at h b

-- the run ends with this value, and only so many buffers have passed
pub record EndsWith {A : Type 0} (value : A) (n : ℕ) (h : Heap) (m : Ended A) : Type 0 where
  pub heap : Heap
  pub ends : m ≡ Done value heap
  pub passed : Passed n h heap

-- ---- jobs

-- a loop is a phase where it is a fold or has a buffer as result
abbrev pub is_phase : Job → Bool
is_phase j = j.folds || not (is_small j.shape)

-- what there is before the first cell of a phase
abbrev pub begun : Job → Heap → Claimed
begun j m = claim (is_small j.shape) None (size j.shape) (count_phase true (length j.indices) m)

-- the result is settled in a heap where only so many buffers have passed since the phase was begun
pub record Settles (r : ArrayValue) (n : ℕ) (c : Claimed) (m : Ended Value) : Type 0 where
  pub heap : Heap
  pub ends : m ≡ settled c.target r heap
  pub passed : Passed n c.heap heap
