-- The laws of loops over cells, of phases and of chunks.
use Rattle.std.specs.Prelude.{◌≡◌, ℕ, ◌+◌, List, [], ◌++◌, map, flat_map, length, fold, ℤ, Option, None, IsTrue}
use Rattle.std.specs.List.{zip}
use Rattle.sac_base.specs.Arrays.{ArrayValue}
use Rattle.sac_base.specs.WithLoops.{Range, each, combined, cell_at as with_cell_at}
use Rattle.sac_base.specs.Verdict.{folds}
use Rattle.sac_base.specs.declared.op.Op.{Op}
use Rattle.sac_base.specs.Outcomes.{Ends}
use Rattle.sac_base.specs.declared.base.Base.{Base}
use Rattle.sac_base.specs.declared.faults.Caps.{Caps}
use Rattle.sac_base.specs.declared.form.Form.{Form}
use Rattle.sac_base.specs.declared.site.Site.{Site}
use Rattle.core_ir.specs.Meaning.{Env, generators, cells, cell_form, cell_at}
use Rattle.core_ir.specs.Outcome.{call_by, run_deeper, run_inline}
use Rattle.core_ir.specs.declared.tree.Var.{Var}
use Rattle.counted_code.specs.Counts.{IsWellCounted, IsUnmarked, Unmarked, UnmarkedGens, UnmarkedParts, Counted, CountedGens, CountedParts, group_results}
use Rattle.counted_code.specs.Loops.{Source, Writing, Target, cell_does, cells_do, write_cell, holder, part_holder}
use Rattle.counted_code.specs.Machine.{Values, DoesCalls, does, right_does, code_generators, code_cells}
use Rattle.counted_code.specs.Outcome.{whole_run, outcome_of, cost_of, phases_of, call_does, deeper_does, inline_does}
use Rattle.counted_code.specs.Terms.{CodeTerm, CodeRightTerm, CodeGensTerm, CodePartsTerm, CodeProgram, core_of_code, core_of_gens, core_of_parts}
use Rattle.counted_code.specs.Values.{Heap, buffer_at}
use Rattle.counted_laws.specs.Simulation.{LeavesNothing, Balanced, Owns, AllBacked, Shows, SameCells, CallsMatch}
use Rattle.phase_laws.specs.Alone.{Context, Readable, Leaves, StandAlone, Alike, told, IsNew, Spent, SpentInAll, CallsSpend}
use Rattle.phase_laws.specs.Chunks.{pieces, beside, chunks_run, chunks_do, RanAs, GivesAsMany}
use Rattle.phase_laws.specs.Folds.{IsOf, AllOf, partial, merged}
use Rattle.phase_laws.specs.Growing.{Grows, CallsGrow, SourceGrows}
use Rattle.phase_laws.specs.Numbers.{IsBlind, CallsAreBlind, SourceIsBlind}
use Rattle.phase_laws.specs.Phased.{Cut, phased, right_phased, inline_phased, deeper_phased, phased_run}
use Rattle.phase_laws.specs.Spending.{spends, gens_take, parts_take, total, whole_spends, calls_spend, deeper_spends, inline_spends}

-- a block spends what it spends on arrays
abbrev pub BlocksSpend : Type 0
BlocksSpend =
    (c : Context) (t : CodeTerm) → Unmarked t → (n : ℕ) (outer refs : List Var) → Counted c.results_of n outer refs t →
    (h : Heap) (e : Values) (ρ : Env) (others : ℕ → ℕ) → Owns h (map e refs) others → AllBacked others e outer → Shows h e ρ (refs ++ outer) →
    Spent (spends c.calls c.turns c.call_spends t ρ) h (does c.does_calls c.turns t e h)

-- calls do at each level what they mean
abbrev pub CallsDoWhatTheyMean : Type 0
CallsDoWhatTheyMean =
    (code : CodeProgram) → IsWellCounted code → IsUnmarked code → (turns left nest : ℕ) →
    CallsMatch (group_results (core_of_code code))
    (call_does code (deeper_does code turns left) (inline_does code turns (deeper_does code turns left) nest))
    (call_by (core_of_code code) (run_deeper (core_of_code code) turns left)
    (run_inline (core_of_code code) turns (run_deeper (core_of_code code) turns left) nest))

-- and spend what they spend on arrays
abbrev pub CallsSpendAsOnArrays : Type 0
CallsSpendAsOnArrays =
    (code : CodeProgram) → IsWellCounted code → IsUnmarked code → (turns left nest : ℕ) →
    CallsSpend (call_does code (deeper_does code turns left) (inline_does code turns (deeper_does code turns left) nest))
    (calls_spend code (deeper_spends code turns left)
    (inline_spends code turns (run_deeper (core_of_code code) turns left) (deeper_spends code turns left) nest))

-- a whole run spends what it spends on arrays
abbrev pub RunsSpend : Type 0
RunsSpend =
    (code : CodeProgram) → IsWellCounted code → IsUnmarked code → (args : List ArrayValue) (caps : Caps) →
    SpentInAll (whole_spends code args caps) (whole_run code args caps)

-- a with-loop's cells are the core's, whatever else there is in the heap; its generators' operands were read in any heap k
abbrev pub WithCellsStandAlone : Type 0
WithCellsStandAlone =
    (c : Context) (gens : CodeGensTerm) → UnmarkedGens gens → (live : List Var) → CountedGens c.results_of live gens →
    (h k : Heap) (e : Values) (ρ : Env) (holding : ℕ → ℕ) → Readable h e ρ holding live → (form : Form) (ranges : List Range) →
    StandAlone holding h form (holder (code_generators c.does_calls c.turns gens e k) ranges)
    (with_cell_at form (generators c.calls c.turns (core_of_gens gens) ρ) ranges) (gens_take c.calls c.turns c.call_spends gens ρ ranges)

-- the same of a parted loop's cells
abbrev pub PartedCellsStandAlone : Type 0
PartedCellsStandAlone =
    (c : Context) (parts : CodePartsTerm) → UnmarkedParts parts → (live : List Var) → CountedParts c.results_of live parts →
    (h : Heap) (e : Values) (ρ : Env) (holding : ℕ → ℕ) → Readable h e ρ holding live → (base : Base) (shape : List ℕ) →
    StandAlone holding h (record { base = base; shape = shape }) (part_holder (code_cells c.does_calls c.turns parts e))
    (cell_at (cell_form base shape) (cells c.calls c.turns (core_of_parts parts) ρ)) (parts_take c.calls c.turns c.call_spends parts ρ)

-- a cell is the same in a heap k with the same buffers
abbrev pub CellsAreAlikeElsewhere : Type 0
CellsAreAlikeElsewhere =
    (holding : ℕ → ℕ) (h k : Heap) (form : Form) (source : List ℤ → Option Source) (cell : List ℤ → Ends (Option ArrayValue))
    (takes : List ℤ → ℕ) →
    StandAlone holding h form source cell takes → Owns h [] holding → Balanced k → ((b : ℕ) → buffer_at k b ≡ buffer_at h b) → (v : List ℤ) →
    Alike holding h k (cell_does form (source v) h) (cell_does form (source v) k)

-- cells that are run in order leave the heap unchanged, and take what all of them take
abbrev pub CellsInOrderLeave : Type 0
CellsInOrderLeave =
    (holding : ℕ → ℕ) (h : Heap) (form : Form) (source : List ℤ → Option Source) (cell : List ℤ → Ends (Option ArrayValue)) (takes : List ℤ → ℕ)
    →
    StandAlone holding h form source cell takes → (t : Target) → IsNew t → (place : ℕ) (vs : List (List ℤ)) (k : Heap) → Owns k [] holding →
    SameCells holding h k → Leaves holding (total takes vs) k (cells_do form source (write_cell t) place vs k) (each cell vs)

-- they tell what each tells from the first heap
abbrev pub CellsInOrderTell : Type 0
CellsInOrderTell =
    (holding : ℕ → ℕ) (h : Heap) (form : Form) (source : List ℤ → Option Source) (cell : List ℤ → Ends (Option ArrayValue)) (takes : List ℤ → ℕ)
    →
    StandAlone holding h form source cell takes → (t : Target) → IsNew t → (place : ℕ) (vs : List (List ℤ)) → Owns h [] holding →
    told (cells_do form source (write_cell t) place vs h) ≡ each (λ v. told (cell_does form (source v) h)) vs

-- the numbers of a heap have no say in what a block does
abbrev pub BlocksAreBlind : Type 0
BlocksAreBlind =
    (calls : DoesCalls) (turns : ℕ) → CallsAreBlind calls → (t : CodeTerm) (e : Values) → IsBlind (does calls turns t e)

-- nor in a right side
abbrev pub RightSidesAreBlind : Type 0
RightSidesAreBlind =
    (calls : DoesCalls) (turns : ℕ) → CallsAreBlind calls → (r : CodeRightTerm) (s : Site) (e : Values) → IsBlind (right_does calls turns r s e)

-- nor in the cells of generators
abbrev pub GeneratorsAreBlind : Type 0
GeneratorsAreBlind =
    (calls : DoesCalls) (turns : ℕ) → CallsAreBlind calls → (gens : CodeGensTerm) (e : Values) (h : Heap) (ranges : List Range) (v : List ℤ) →
    SourceIsBlind (holder (code_generators calls turns gens e h) ranges v)

-- nor in those of parts
abbrev pub PartsAreBlind : Type 0
PartsAreBlind =
    (calls : DoesCalls) (turns : ℕ) → CallsAreBlind calls → (parts : CodePartsTerm) (e : Values) (v : List ℤ) →
    SourceIsBlind (part_holder (code_cells calls turns parts e) v)

-- nor in cells that are run in order
abbrev pub CellsAreBlind : Type 0
CellsAreBlind =
    (form : Form) (source : List ℤ → Option Source) → ((v : List ℤ) → SourceIsBlind (source v)) →
    (t : Target) (place : ℕ) (vs : List (List ℤ)) → IsBlind (cells_do form source (write_cell t) place vs)

-- nor in the calls of each level
abbrev pub CallsOfEachLevelAreBlind : Type 0
CallsOfEachLevelAreBlind =
    (code : CodeProgram) (turns left nest : ℕ) →
    CallsAreBlind (call_does code (deeper_does code turns left) (inline_does code turns (deeper_does code turns left) nest))

-- a block leaves one place more for each buffer that it took
abbrev pub BlocksGrow : Type 0
BlocksGrow =
    (calls : DoesCalls) (turns : ℕ) → CallsGrow calls → (t : CodeTerm) (e : Values) → Grows (does calls turns t e)

-- so do the cells of generators
abbrev pub GeneratorsGrow : Type 0
GeneratorsGrow =
    (calls : DoesCalls) (turns : ℕ) → CallsGrow calls → (gens : CodeGensTerm) (e : Values) (h : Heap) (ranges : List Range) (v : List ℤ) →
    SourceGrows (holder (code_generators calls turns gens e h) ranges v)

-- those of parts
abbrev pub PartsGrow : Type 0
PartsGrow =
    (calls : DoesCalls) (turns : ℕ) → CallsGrow calls → (parts : CodePartsTerm) (e : Values) (v : List ℤ) →
    SourceGrows (part_holder (code_cells calls turns parts e) v)

-- a cell that is checked and released
abbrev pub OneCellGrows : Type 0
OneCellGrows =
    (form : Form) (source : Option Source) → SourceGrows source → Grows (cell_does form source)

-- cells that are run in order
abbrev pub CellsGrow : Type 0
CellsGrow =
    (form : Form) (source : List ℤ → Option Source) → ((v : List ℤ) → SourceGrows (source v)) → (t : Target) (place : ℕ) (vs : List (List ℤ)) →
    Grows (cells_do form source (write_cell t) place vs)

-- and the calls of each level
abbrev pub CallsOfEachLevelGrow : Type 0
CallsOfEachLevelGrow =
    (code : CodeProgram) (turns left nest : ℕ) →
    CallsGrow (call_does code (deeper_does code turns left) (inline_does code turns (deeper_does code turns left) nest))

-- chunks that are each run from the first heap come to the cells
abbrev pub ChunksRunAsCells : Type 0
ChunksRunAsCells =
    (holding : ℕ → ℕ) (h : Heap) (form : Form) (source : List ℤ → Option Source) (cell : List ℤ → Ends (Option ArrayValue)) (takes : List ℤ → ℕ)
    →
    StandAlone holding h form source cell takes → ((v : List ℤ) → SourceIsBlind (source v)) → (t : Target) → IsNew t → Owns h [] holding →
    (place : ℕ) (chunks : List (List (List ℤ))) →
    RanAs (total takes (flat_map (λ vs. vs) chunks)) (chunks_run form source (write_cell t) place chunks h)
    (each cell (flat_map (λ vs. vs) chunks))

-- and leave what the cells leave
abbrev pub ChunksLeave : Type 0
ChunksLeave =
    (holding : ℕ → ℕ) (h : Heap) (form : Form) (source : List ℤ → Option Source) (cell : List ℤ → Ends (Option ArrayValue)) (takes : List ℤ → ℕ)
    →
    StandAlone holding h form source cell takes → ((v : List ℤ) → SourceIsBlind (source v)) → (t : Target) → IsNew t → Owns h [] holding →
    (place : ℕ) (chunks : List (List (List ℤ))) →
    Leaves holding (total takes (flat_map (λ vs. vs) chunks)) h (chunks_do form source (write_cell t) place chunks h)
    (each cell (flat_map (λ vs. vs) chunks))

-- the chunks of two halves come to what all come to
abbrev pub HalvesAreBeside : Type 0
HalvesAreBeside =
    (form : Form) (source : List ℤ → Option Source) (writing : Writing) (place : ℕ) (xs ys : List (List (List ℤ))) (h : Heap) →
    chunks_run form source writing place (xs ++ ys) h
    ≡ beside (chunks_run form source writing place xs h) (chunks_run form source writing (place + length (flat_map (λ vs. vs) xs)) ys h)

-- the pieces of a list are together the list
abbrev pub PiecesAreTheWhole : Type 0
PiecesAreTheWhole =
    (ns : List ℕ) (vs : List (List ℤ)) → flat_map (λ us. us) (pieces ns vs) ≡ vs

-- a run in phases has the outcome of the run on one thread
abbrev pub PhasedOutcomesAreTheSame : Type 0
PhasedOutcomesAreTheSame =
    (cut : Option Cut) (code : CodeProgram) → IsWellCounted code → IsUnmarked code → (args : List ArrayValue) (caps : Caps) →
    outcome_of (phased_run cut code args caps) ≡ outcome_of (whole_run code args caps)

-- its cost
abbrev pub PhasedCostsAreTheSame : Type 0
PhasedCostsAreTheSame =
    (cut : Option Cut) (code : CodeProgram) → IsWellCounted code → IsUnmarked code → (args : List ArrayValue) (caps : Caps) →
    cost_of (phased_run cut code args caps) ≡ cost_of (whole_run code args caps)

-- its phases
abbrev pub PhasesAreTheSame : Type 0
PhasesAreTheSame =
    (cut : Option Cut) (code : CodeProgram) → IsWellCounted code → IsUnmarked code → (args : List ArrayValue) (caps : Caps) →
    phases_of (phased_run cut code args caps) ≡ phases_of (whole_run code args caps)

-- and leaves no buffer
abbrev pub PhasedRunsLeaveNothing : Type 0
PhasedRunsLeaveNothing =
    (cut : Option Cut) (code : CodeProgram) → IsWellCounted code → IsUnmarked code → (args : List ArrayValue) (caps : Caps) →
    LeavesNothing (phased_run cut code args caps)

-- without a cut a block does what it does in counted code
abbrev pub UncutBlocks : Type 0
UncutBlocks =
    (calls : DoesCalls) (turns : ℕ) (t : CodeTerm) (e : Values) (h : Heap) → phased None calls calls turns t e h ≡ does calls turns t e h

-- so does a right side
abbrev pub UncutRightSides : Type 0
UncutRightSides =
    (calls : DoesCalls) (turns : ℕ) (r : CodeRightTerm) (s : Site) (e : Values) (h : Heap) →
    right_phased None calls calls turns r s e h ≡ right_does calls turns r s e h

-- a function at each level
abbrev pub UncutFunctions : Type 0
UncutFunctions =
    (code : CodeProgram) (turns left nest : ℕ) →
    (deeper_phased None code turns left ≡ deeper_does code turns left)
    ×
    (inline_phased None code turns (deeper_does code turns left) (deeper_phased None code turns left) nest
    ≡ inline_does code turns (deeper_does code turns left) nest)

-- and a whole run
abbrev pub UncutRuns : Type 0
UncutRuns =
    (code : CodeProgram) (args : List ArrayValue) (caps : Caps) → phased_run None code args caps ≡ whole_run code args caps

-- the partial value of two lists of cells is merged of theirs
abbrev pub PartialsMerge : Type 0
PartialsMerge =
    (base : Base) (op : Op) → IsTrue (folds base op) → (shape : List ℕ) (xs ys : List (Option ArrayValue)) → AllOf base shape xs →
    AllOf base shape ys → partial op (xs ++ ys) ≡ merged op (partial op xs) (partial op ys)

-- a fold combines its neutral value with the partial value of all cells
abbrev pub FoldsOfPartials : Type 0
FoldsOfPartials =
    (base : Base) (op : Op) → IsTrue (folds base op) → (shape : List ℕ) (neutral : ArrayValue) (cells : List (Option ArrayValue)) →
    IsOf base shape neutral → AllOf base shape cells → fold (combined op) neutral cells ≡ combined op neutral (partial op cells)

-- there are as many cells as indices
abbrev pub AsManyCells : Type 0
AsManyCells =
    (form : Form) (source : List ℤ → Option Source) (writing : Writing) (place : ℕ) (vs : List (List ℤ)) (h : Heap) →
    GivesAsMany (length vs) (cells_do form source writing place vs h)

-- what is made of indices with their cells is made part by part
abbrev pub ResultsInParts : Type 0
ResultsInParts =
    (each_cell : List ℤ × Option ArrayValue → List ℤ) (vs us : List (List ℤ)) (cs ds : List (Option ArrayValue)) → length cs ≡ length vs →
    flat_map each_cell (zip (vs ++ us) (cs ++ ds)) ≡ flat_map each_cell (zip vs cs) ++ flat_map each_cell (zip us ds)
