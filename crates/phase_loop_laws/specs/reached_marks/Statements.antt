-- Phases of code with marks whose cells reach no mark.
use Rattle.std.specs.Prelude.{◌≡◌, ℕ, Bool, List, map}
use Rattle.sac_base.specs.declared.base.Base.{Base}
use Rattle.sac_base.specs.declared.form.Form.{Form}
use Rattle.sac_base.specs.declared.site.Site.{Site}
use Rattle.sac_base.specs.WithLoops.{Range, cell_at as with_cell_at}
use Rattle.core_ir.specs.declared.tree.Var.{Var}
use Rattle.core_ir.specs.Meaning.{Env, cells, cell_at, cell_form, generators}
use Rattle.core_facts.specs.calls.Nests.{CallsAllGens, CallsAllParts}
use Rattle.counted_code.specs.Counts.{IsWellCounted, UnmarkedGens, UnmarkedParts, CountedGens, CountedParts, group_results}
use Rattle.counted_code.specs.Loops.{holder, part_holder}
use Rattle.counted_code.specs.Machine.{Values, code_cells, code_generators}
use Rattle.counted_code.specs.Terms.{CodeGensTerm, CodePartsTerm, CodeProgram, core_of_code, core_of_gens, core_of_parts}
use Rattle.counted_code.specs.Values.{Heap, Value, read, count_of}
use Rattle.counted_laws.specs.Simulation.{AllBacked, Matches, Owns, Shows}
use Rattle.counted_laws.specs.mark_removal.Reached.{IsOne, ReachesNone}
use Rattle.counted_laws.specs.mark_removal.Removal.{without_marks}
use Rattle.phase_laws.specs.Alone.{Readable, Spent, StandAlone}
use Rattle.phase_laws.specs.Spending.{gens_take, parts_take}
use Rattle.phase_loop_laws.specs.Levels.{does_at, means_at, spends_at}
use Rattle.phase_loop_laws.specs.Ordered.{StandsAlone}

-- ---- calls in code without its marks

-- they mean the same
abbrev pub MeaningStays : Type 0
MeaningStays =
    (code : CodeProgram) (turns left nest : ℕ) → means_at (without_marks code) turns left nest ≡ means_at code turns left nest

-- what they spend on arrays says nothing of marks
abbrev pub SpendingStays : Type 0
SpendingStays =
    (code : CodeProgram) (turns left nest : ℕ) → spends_at (without_marks code) turns left nest ≡ spends_at code turns left nest

-- ---- calls that reach no mark

-- they do what they mean
abbrev pub ClearCallsMatch : Type 0
ClearCallsMatch =
    (code : CodeProgram) → IsWellCounted code → (reached : ℕ → Bool) → ReachesNone code reached → (turns left nest g : ℕ) → IsOne reached g →
    (vs : List Value) (s : Site) (h : Heap) (others : ℕ → ℕ) → Owns h vs others →
    Matches (group_results (core_of_code code) g) others h (does_at code turns left nest g vs s h) (means_at code turns left nest g (map (read h) vs) s)

-- and spend what they spend on arrays
abbrev pub ClearCallsSpend : Type 0
ClearCallsSpend =
    (code : CodeProgram) → IsWellCounted code → (reached : ℕ → Bool) → ReachesNone code reached → (turns left nest g : ℕ) → IsOne reached g →
    (vs : List Value) (s : Site) (h : Heap) (others : ℕ → ℕ) → Owns h vs others →
    Spent (spends_at code turns left nest g (map (read h) vs)) h (does_at code turns left nest g vs s h)

-- ---- loops whose cells reach no mark

-- a with-loop's cells are the core's, whatever else there is in the heap; its generators' operands were read in any heap k
abbrev pub ClearWithCellsStandAlone : Type 0
ClearWithCellsStandAlone =
    (code : CodeProgram) → IsWellCounted code → (reached : ℕ → Bool) → ReachesNone code reached → (turns left nest : ℕ) (gens : CodeGensTerm) →
    UnmarkedGens gens → CallsAllGens (IsOne reached) (core_of_gens gens) → (live : List Var) → CountedGens (group_results (core_of_code code)) live gens →
    (h k : Heap) (e : Values) (ρ : Env) (holding : ℕ → ℕ) → Readable h e ρ holding live → (form : Form) (ranges : List Range) →
    StandAlone holding h form (holder (code_generators (does_at code turns left nest) turns gens e k) ranges)
    (with_cell_at form (generators (means_at code turns left nest) turns (core_of_gens gens) ρ) ranges)
    (gens_take (means_at code turns left nest) turns (spends_at code turns left nest) gens ρ ranges)

-- the same of a parted loop's cells
abbrev pub ClearPartedCellsStandAlone : Type 0
ClearPartedCellsStandAlone =
    (code : CodeProgram) → IsWellCounted code → (reached : ℕ → Bool) → ReachesNone code reached → (turns left nest : ℕ) (parts : CodePartsTerm) →
    UnmarkedParts parts → CallsAllParts (IsOne reached) (core_of_parts parts) → (live : List Var) →
    CountedParts (group_results (core_of_code code)) live parts → (h : Heap) (e : Values) (ρ : Env) (holding : ℕ → ℕ) → Readable h e ρ holding live →
    (base : Base) (shape : List ℕ) →
    StandAlone holding h (record { base = base; shape = shape }) (part_holder (code_cells (does_at code turns left nest) turns parts e))
    (cell_at (cell_form base shape) (cells (means_at code turns left nest) turns (core_of_parts parts) ρ))
    (parts_take (means_at code turns left nest) turns (spends_at code turns left nest) parts ρ)

-- all of a with-loop's cells stand alone where its variables can be read, and the numbers of the heap have no say in it
abbrev pub ClearLoopsStandAlone : Type 0
ClearLoopsStandAlone =
    (code : CodeProgram) → IsWellCounted code → (reached : ℕ → Bool) → ReachesNone code reached → (turns left nest : ℕ) (h : Heap) (e : Values)
    (ρ : Env) (live : List Var) → AllBacked (λ b. count_of h b) e live → Shows h e ρ live → (gens : CodeGensTerm) → UnmarkedGens gens →
    CallsAllGens (IsOne reached) (core_of_gens gens) → CountedGens (group_results (core_of_code code)) live gens →
    (m : Heap) (form : Form) (ranges : List Range) →
    StandsAlone h form (holder (code_generators (does_at code turns left nest) turns gens e m) ranges)
    (with_cell_at form (generators (means_at code turns left nest) turns (core_of_gens gens) ρ) ranges)
    (gens_take (means_at code turns left nest) turns (spends_at code turns left nest) gens ρ ranges)

-- the same of a parted loop's
abbrev pub ClearPartedLoopsStandAlone : Type 0
ClearPartedLoopsStandAlone =
    (code : CodeProgram) → IsWellCounted code → (reached : ℕ → Bool) → ReachesNone code reached → (turns left nest : ℕ) (h : Heap) (e : Values)
    (ρ : Env) (live : List Var) → AllBacked (λ b. count_of h b) e live → Shows h e ρ live → (parts : CodePartsTerm) → UnmarkedParts parts →
    CallsAllParts (IsOne reached) (core_of_parts parts) → CountedParts (group_results (core_of_code code)) live parts →
    (base : Base) (shape : List ℕ) →
    StandsAlone h (record { base = base; shape = shape }) (part_holder (code_cells (does_at code turns left nest) turns parts e))
    (cell_at (cell_form base shape) (cells (means_at code turns left nest) turns (core_of_parts parts) ρ))
    (parts_take (means_at code turns left nest) turns (spends_at code turns left nest) parts ρ)
