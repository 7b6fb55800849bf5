-- From which heaps of the machine the cells of a loop may be computed.
use Rattle.std.specs.Prelude.{ℕ, cond, eqb, List, [], ◌∷◌, ℤ, Option, Some, None}
use Rattle.buffer_heap.specs.Heaps.{Content, In, Out, Held, HeapValue, content_of}
use Rattle.phase_cells.specs.Idle.{IsAsLent}
use Rattle.core_ir.specs.declared.tree.Var.{Var}
use Rattle.core_ir.specs.Meaning.{Env, CallMeaning}
use Rattle.core_ir.specs.Outcome.{call_by, run_deeper, run_inline}
use Rattle.counted_code.specs.declared.tree.CodeGen.{CodeGen}
use Rattle.counted_code.specs.declared.tree.CodePart.{CodePart}
use Rattle.counted_code.specs.Counts.{IsWellCounted, CountedGens, CountedParts, group_results}
use Rattle.counted_code.specs.Machine.{Values}
use Rattle.counted_code.specs.Terms.{CodeGensTerm, CodePartsTerm, CodeProgram, core_of_code}
use Rattle.counted_code.specs.Values.{Heap, Value, Small, Ref}
use Rattle.counted_code.specs.View.{code_program}
use Rattle.reach_checks.specs.Loops.{ClearGens, ClearParts}
use Rattle.phase_laws.specs.Alone.{Readable}
use Rattle.phase_laws.specs.Spending.{CallSpending, calls_spend, deeper_spends, inline_spends}
use Rattle.sac_base.specs.Arrays.{ArrayValue}
use Rattle.run_loops.specs.declared.cell_loop.CellSource.{CellSource}
use Rattle.run_loops.specs.declared.cell_loop.CellSource.TheVariants.{Generators, Parts}
use Rattle.run_loops.specs.declared.state.Context.{Context}
use Rattle.counted_code.specs.Pieces.{gens_term, parts_term}

-- ---- calls

-- what calls mean and spend, with the levels that are left
abbrev pub meant_calls : CodeProgram → (turns left nest : ℕ) → CallMeaning
meant_calls code turns left nest =
    call_by (core_of_code code) (run_deeper (core_of_code code) turns left)
    (run_inline (core_of_code code) turns (run_deeper (core_of_code code) turns left) nest)

abbrev pub spent_calls : CodeProgram → (turns left nest : ℕ) → CallSpending
spent_calls code turns left nest =
    calls_spend code (deeper_spends code turns left) (inline_spends code turns (run_deeper (core_of_code code) turns left) (deeper_spends code turns left) nest)

abbrev pub meaning_in : Context → CallMeaning
meaning_in context = meant_calls (code_program context.code.now) context.turns context.left context.nest

abbrev pub spending_in : Context → CallSpending
spending_in context = spent_calls (code_program context.code.now) context.turns context.left context.nest

-- ---- the arrays of the heap that lends

-- the live buffer of a number
abbrev pub named : List (Option Held) → ℕ → Option Held
named [] b = None
named (None ∷ xs) b = named xs b
named (Some x ∷ xs) b = cond (eqb x.born b) (Some x) (named xs b)

abbrev pub cells_in : Content → List ℤ
cells_in (In cells) = cells
cells_in (Out len) = []

-- the array that a value is
abbrev pub lent_array : HeapValue → Value → ArrayValue
lent_array h (Small a) = a
lent_array h (Ref b base shape) = record { base = base; shape = shape; cells = cells_in (content_of (named h.places b)) }

abbrev pub lent_env : HeapValue → Values → Env
lent_env h e x = lent_array h (e x)

-- ---- heaps of the machine

-- The code is well-counted. In this heap the variables that the cells read are the arrays of the heap that lends, and each of that
-- heap's buffers has as many references as there. How many buffers were taken has no say in what a cell does: `taken` is the number at which none
-- was lost, and `holding` counts the references to every buffer.
pub record IsOpen (CountedIn : List Var → Type 0) (code : CodeProgram) (lends : HeapValue) (e : Values) (k : Heap) : Type 0 where
  pub counted : IsWellCounted code
  pub live : List Var
  pub counted_here : CountedIn live
  pub holding : ℕ → ℕ
  pub taken : ℕ
  pub readable : Readable (record k { taken = taken }) e (lent_env lends e) holding live
  pub lent : IsAsLent lends k

abbrev pub GensIn : CodeProgram → CodeGensTerm → List Var → Type 0
GensIn code gens live = ClearGens code gens × CountedGens (group_results (core_of_code code)) live gens

abbrev pub PartsIn : CodeProgram → CodePartsTerm → List Var → Type 0
PartsIn code parts live = ClearParts code parts × CountedParts (group_results (core_of_code code)) live parts

abbrev pub OpenGens : Context → HeapValue → Values → List CodeGen → Heap → Type 0
OpenGens context lends e gens k =
    IsOpen (GensIn (code_program context.code.now) (gens_term gens)) (code_program context.code.now) lends e k

abbrev pub OpenParts : Context → HeapValue → Values → List CodePart → Heap → Type 0
OpenParts context lends e parts k =
    IsOpen (PartsIn (code_program context.code.now) (parts_term parts)) (code_program context.code.now) lends e k

-- the same of a source of cells
abbrev pub SourceIn : CodeProgram → CellSource → List Var → Type 0
SourceIn code (Generators gens) = GensIn code (gens_term gens.now)
SourceIn code (Parts parts) = PartsIn code (parts_term parts.now)

abbrev pub OpenSource : Context → HeapValue → Values → CellSource → Heap → Type 0
OpenSource context lends e source k =
    IsOpen (SourceIn (code_program context.code.now) source) (code_program context.code.now) lends e k
