-- A phase whose result is written over the array of a marked variable.
use Rattle.std.specs.Prelude.{◌≡◌, ℕ, ◌+◌, ◌<◌, ◌≤◌, Bool, true, false, eqb, List, [], ◌∷◌, ◌++◌, length, get_or, ℤ, Option, Some, None, Result, Ok, Err}
use Rattle.sac_base.specs.declared.base.Base.{Base}
use Rattle.sac_base.specs.declared.grid.Grid1.{Grid1}
use Rattle.sac_base.specs.declared.stop.Stop.{Stop}
use Rattle.sac_base.specs.declared.stop.Stop.TheVariants.{Faulted, Memory}
use Rattle.sac_base.specs.Arrays.{ArrayValue, size}
use Rattle.sac_base.specs.Grids.{members}
use Rattle.sac_base.specs.Outcomes.{Ends}
use Rattle.sac_base.specs.WithLoops.{each}
use Rattle.core_ir.specs.declared.tree.Var.{Var}
use Rattle.core_ir.specs.Binders.{is_in}
use Rattle.core_ir.specs.Meaning.{Env, cells, cell_at, cell_form, extents, joined}
use Rattle.core_facts.specs.calls.Nests.{CallsAllParts}
use Rattle.core_loops.specs.folds.Cells.{IsBox}
use Rattle.counted_code.specs.Counts.{IsWellCounted, UnmarkedParts, CountedParts, group_results}
use Rattle.counted_code.specs.Loops.{Job, job_does, part_holder}
use Rattle.counted_code.specs.Machine.{Values, code_cells}
use Rattle.counted_code.specs.Terms.{CodePartsTerm, CodeProgram, core_of_code, core_of_parts}
use Rattle.counted_code.specs.Values.{Heap, Value, Small, Ref, Done, Failed, is_small, count_of, cells_of, buffer_at}
use Rattle.counted_laws.specs.Simulation.{AllBacked, Shows}
use Rattle.counted_laws.specs.mark_removal.Reached.{IsOne, ReachesNone}
use Rattle.phase_laws.specs.Spending.{parts_take, total}
use Rattle.phase_loop_laws.specs.Levels.{does_at, means_at, spends_at}
use Rattle.phase_loop_laws.specs.Worked.{IsResult}
use Rattle.phase_loop_laws.specs.over_phases.Own.{PartsReadOwn}

-- ---- what is asked of a loop

-- the value is no reference to this buffer
abbrev pub IsApart : ℕ → Value → Type 0
IsApart b (Small a) = Unit {0}
IsApart b (Ref c base shape) = eqb b c ≡ false

-- there is a cell, which is one element, or a fault
abbrev pub IsElement : Ends (Option ArrayValue) → Type 0
IsElement (Ok None) = ⊥
IsElement (Ok (Some a)) = length a.cells ≡ 1
IsElement (Err f) = Unit {0}

abbrev pub AreElements : (List ℤ → Ends (Option ArrayValue)) → List (List ℤ) → Type 0
AreElements cell indices = (p : ℕ) → p < length indices → IsElement (cell (get_or indices p []))

-- the machine's job of a parted loop that makes an array of this shape of scalar cells
abbrev pub parts_job : CodeProgram → (turns left nest : ℕ) → CodePartsTerm → Values → Base → List ℕ → List Grid1 → Job
parts_job code turns left nest parts e base shape frame = record {
  form = record { base = base; shape = [] };
  shape = shape;
  folds = false;
  indices = members frame;
  source = part_holder (code_cells (does_at code turns left nest) turns parts e);
  result = joined base shape;
}

-- ---- how the loop ends

-- the heap in which the cells run: a phase of so many positions is counted, and a buffer is reused
abbrev pub reusing : ℕ → Heap → Heap
reusing n h = record h { reused = h.reused + 1; phases = h.phases ++ n ∷ [] }

-- n buffers were taken and given back, each at a place of its own; the buffer at b has these elements, the others with references are as they were,
-- and no other has any
pub record PassedOver (b : ℕ) (elements : List ℤ) (n : ℕ) (h k : Heap) : Type 0 where
  pub taken : k.taken ≡ h.taken + n
  pub given : k.given ≡ h.given + n
  pub reused : k.reused ≡ h.reused
  pub phases : k.phases ≡ h.phases
  pub places : length k.buffers ≡ length h.buffers + n
  pub counts : (c : ℕ) → count_of k c ≡ count_of h c
  pub written : cells_of k b ≡ elements
  pub buffers : (c : ℕ) → eqb b c ≡ false → 1 ≤ count_of h c → buffer_at k c ≡ buffer_at h c

-- The machine ends with the buffer at b, where the elements that workers have made now stand, or with their fault. Want of memory says nothing.
abbrev pub EndsOver : Job → Value → ℕ → ℕ → Heap → List ℤ → Result (Unit {0}) Stop → Type 0
EndsOver j w b n m elements (Ok done) =
    (k : Heap) × (job_does (Some w) j m ≡ Done (Ref b j.form.base j.shape) k) × PassedOver b elements n (reusing (length j.indices) m) k
EndsOver j w b n m elements (Err (Faulted fault)) = job_does (Some w) j m ≡ Failed fault (m.phases ++ length j.indices ∷ [])
EndsOver j w b n m elements (Err Memory) = Unit {0}

-- ---- the law

-- Where the marked variable's array is as large as the result, and its reference is the only one, the machine writes each cell over it before it runs
-- the next one. If each cell reads of the array its own element alone, and reaches no mark, this comes to what workers make who compute all cells of
-- the array as it was before.
abbrev pub PhasesEndOver : Type 0
PhasesEndOver =
    (code : CodeProgram) → IsWellCounted code → (reached : ℕ → Bool) → ReachesNone code reached → (turns left nest : ℕ) (parts : CodePartsTerm) →
    UnmarkedParts parts → CallsAllParts (IsOne reached) (core_of_parts parts) → (live : List Var) →
    CountedParts (group_results (core_of_code code)) live parts → (m : Heap) (e : Values) (ρ : Env) → AllBacked (λ b. count_of m b) e live →
    Shows m e ρ live → (v : Var) (b : ℕ) (base old : Base) (shape : List ℕ) → is_in v live ≡ true → e v ≡ Ref b old shape → count_of m b ≡ 1 →
    ((y : Var) → is_in y live ≡ true → eqb v.0 y.0 ≡ false → IsApart b (e y)) → (frame : List Grid1) → IsBox frame → shape ≡ extents frame →
    length (cells_of m b) ≡ size shape → is_small shape ≡ false →
    PartsReadOwn (means_at code turns left nest) turns (spends_at code turns left nest) parts base v (members frame) ρ →
    AreElements (cell_at (cell_form base []) (cells (means_at code turns left nest) turns (core_of_parts parts) ρ)) (members frame) →
    (j : Job) → j ≡ parts_job code turns left nest parts e base shape frame → (elements : List ℤ) (end : Result (Unit {0}) Stop) →
    IsResult (joined base shape) base shape
    (each (cell_at (cell_form base []) (cells (means_at code turns left nest) turns (core_of_parts parts) ρ)) (members frame)) elements end →
    EndsOver j (Ref b old shape) b (total (parts_take (means_at code turns left nest) turns (spends_at code turns left nest) parts ρ) (members frame)) m
    elements end
