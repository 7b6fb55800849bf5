-- What the cells of a loop come to for a worker.
use Rattle.std.specs.Prelude.{◌≡◌, ℕ, Bool, true, false, List, [], ℤ, Option, Some, None, option_map, Result, Ok, Err, ◌*◌, take, drop, slice_index_or, ⊤}
use Rattle.sac_base.specs.declared.form.Form.{Form}
use Rattle.sac_base.specs.Arrays.{ArrayValue}
use Rattle.sac_base.specs.Outcomes.{Ends}
use Rattle.sac_base.specs.WithLoops.{Range, cell_at as with_cell_at}
use Rattle.buffer_heap.specs.Heaps.{HeapValue}
use Rattle.core_ir.specs.Meaning.{generators, cells, cell_form, cell_at as part_cell_at}
use Rattle.counted_code.specs.Loops.{release_rest}
use Rattle.counted_code.specs.Machine.{Values}
use Rattle.counted_code.specs.Terms.{core_of_gens, core_of_parts}
use Rattle.counted_code.specs.Values.{Heap, Value, Ended, Done, Failed, read}
use Rattle.phase_laws.specs.Spending.{gens_take, parts_take}
use Rattle.run_store.specs.Stands.{Stands}
use Rattle.run_store.specs.declared.store.Store.{Store}
use Rattle.array_with_loops.specs.declared.plans.Plan.{Plan}
use Rattle.sac_base.specs.declared.stop.Stop.{Stop}
use Rattle.sac_base.specs.declared.stop.Stop.TheVariants.{Faulted, Memory}
use Rattle.wl_core.specs.Machine.{CellValue}
use Rattle.phase_team.specs.Segments.{value_if}
use Rattle.phase_team.specs.declared.cells.CellEnd.{CellEnd}
use Rattle.phase_team.specs.declared.cells.CellEnd.TheVariants as end
use Rattle.phase_loop_cells.specs.declared.copies.Background.{Background}
use Rattle.run_loops.specs.declared.cell_loop.CellSource.{CellSource}
use Rattle.run_loops.specs.declared.cell_loop.CellSource.TheVariants.{Generators, Parts}
use Rattle.run_loops.specs.declared.state.Context.{Context}
use Rattle.run_loops.specs.declared.state.State.{State}
use Rattle.counted_code.specs.Pieces.{gens_term, parts_term}
use Rattle.phase_loop_cells.specs.Opened.{meaning_in, spending_in, lent_env}
use Rattle.run_loops.specs.Running.{IsAt}

-- the elements at a place of an old array, or those of a default
abbrev pub stands_at : Bool → List ℤ → (size place : ℕ) → List ℤ
stands_at true elements size place = take size (drop (place * size) elements)
stands_at false elements size place = elements

-- what stands at a place where an index has no cell
abbrev pub fill_at : Option Background → ℕ → Option (List ℤ)
fill_at None place = None
fill_at (Some b) place = Some (stands_at b.old b.cells.now b.size place)

abbrev pub elements_or : Option (List ℤ) → Option ArrayValue → Option (List ℤ)
elements_or fill None = fill
elements_or fill (Some a) = Some a.cells

-- the elements of a cell
abbrev pub as_cell : Option (List ℤ) → Ends (Option ArrayValue) → CellValue
as_cell fill (Ok c) = Ok (elements_or fill c)
as_cell fill (Err f) = Err f

abbrev pub index_at : List (List ℤ) → ℕ → List ℤ
index_at indices place = slice_index_or indices place []

-- ---- cells of a source

-- what the cell of an index comes to, and how many buffers it takes. The ranges are those of generators
abbrev pub source_means : Context → HeapValue → Values → CellSource → Form → List Range → List ℤ → Ends (Option ArrayValue)
source_means context lends e (Generators gens) form ranges index =
    with_cell_at form (generators (meaning_in context) context.turns (core_of_gens (gens_term gens.now)) (lent_env lends e)) ranges index
source_means context lends e (Parts parts) form ranges index =
    part_cell_at (cell_form form.base form.shape) (cells (meaning_in context) context.turns (core_of_parts (parts_term parts.now)) (lent_env lends e)) index

abbrev pub source_takes : Context → HeapValue → Values → CellSource → List Range → List ℤ → ℕ
source_takes context lends e (Generators gens) ranges index =
    gens_take (meaning_in context) context.turns (spending_in context) (gens_term gens.now) (lent_env lends e) ranges index
source_takes context lends e (Parts parts) ranges index =
    parts_take (meaning_in context) context.turns (spending_in context) (parts_term parts.now) (lent_env lends e) index

-- the same of a position
abbrev pub source_cell : Context → HeapValue → Values → CellSource → Plan → Option Background → ℕ → CellValue
source_cell context lends e source plan background place =
    as_cell (fill_at background place) (source_means context lends e source plan.form plan.ranges.items (index_at plan.frame place))

abbrev pub source_taken : Context → HeapValue → Values → CellSource → Plan → ℕ → ℕ
source_taken context lends e source plan place = source_takes context lends e source plan.ranges.items (index_at plan.frame place)

-- ---- answers

-- the elements of a value were written and it was released, or what stands where there is none; if there was anything to write
pub record IsPut (fill : Option (List ℤ)) (into : List ℤ) (written : Bool) (s : Store) (w : Option Value) (m : Heap) : Type 0 where
  pub elements : elements_or fill (option_map (read m) w) ≡ value_if written into
  pub stands : Stands s (release_rest w m)

-- the elements of the machine's cell were written, if there are any, and the state stands for its heap; or both have the same fault
abbrev pub ToldCell : Option (List ℤ) → List ℤ → Result Bool Stop → State → Ended (Option ArrayValue) → Type 0
ToldCell fill into (Ok written) s (Done c k) = (elements_or fill c ≡ value_if written into) × IsAt s k
ToldCell fill into (Err (Faulted f)) s (Failed g phases) = f ≡ g
ToldCell fill into (Err Memory) s m = ⊤
ToldCell fill into _ s m = ⊥

-- the answer in the words of a phase
abbrev pub end_of : Result Bool Stop → CellEnd
end_of (Ok true) = end.Value
end_of (Ok false) = end.NotHeld
end_of (Err stop) = end.Stopped stop
