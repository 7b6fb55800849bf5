-- What a worker's cell tells and leaves, by what the evaluator has told of it.
use Rattle.std.proofs.Common.{◌≡◌, ℕ, Bool, List, ℤ, Option, Result, sym, subst}
use Rattle.buffer_heap.specs.Heaps.{HeapValue}
use Rattle.phase_cells.specs.Idle.{IsLeft}
use Rattle.counted_code.specs.Loops.{cell_does}
use Rattle.counted_code.specs.Machine.{Values}
use Rattle.counted_code.specs.Values.{Heap, Ended}
use Rattle.counted_code.specs.View.{code_program}
use Rattle.run_store.specs.Stands.{Stands}
use Rattle.run_store.specs.declared.store.Store.{Store}
use Rattle.run_values.specs.Scopes.{current}
use Rattle.sac_base.specs.Arrays.{ArrayValue}
use Rattle.array_with_loops.specs.declared.plans.Plan.{Plan}
use Rattle.sac_base.specs.declared.stop.Stop.{Stop}
use Rattle.phase_team.specs.Segments.{IsComputed, Tells}
use Rattle.phase_loop_cells.specs.declared.copies.Background.{Background}
use Rattle.run_loops.specs.declared.cell_loop.CellSource.{CellSource}
use Rattle.run_loops.specs.declared.state.Context.{Context}
use Rattle.run_loops.specs.declared.state.State.{State}
use Rattle.phase_loop_cells.specs.Cells.{ToldCell, end_of, fill_at, index_at, source_cell, source_means, source_taken}
use Rattle.phase_loop_cells.specs.Opened.{OpenSource, SourceIn}
use Rattle.run_loops.specs.Loops.{source_at}
use Rattle.phase_count.proofs.Tallying.{counts_none}
use Rattle.run_loops.specs.Running.{IsAt}
use Rattle.phase_loop_cells.proofs.Afters.{stands_quiet, cell_told, cell_left}
use Rattle.phase_loop_cells.proofs.Sources.{quiet, source_alone, source_grown}

-- a worker's state stands for the heap without phases
at_quiet : (s : State) (store : Store) (k : Heap) → s.heap ≡ store → (s.phases.number ≡ 0) × (s.phases.draws ≡ 0) → Stands store k → IsAt s (quiet k)
at_quiet s store k heap phases stands = record { heap = stands_quiet s.heap k (subst (λ x. Stands x k) (sym heap) stands); phases = counts_none s.phases phases.0 phases.1 }

module _ (context : Context) (lends : HeapValue) (e : Values) (source : CellSource) (p : Plan) (background : Option Background) (place : ℕ) (s t : State) (into : List ℤ) (r : Result Bool Stop) where
  -- the machine's cell of a position, of these variables
  abbrev machine_cell : Values → Heap → Ended (Option ArrayValue)
  machine_cell e = cell_does p.form (source_at context e source p.ranges.items (index_at p.frame place))

  abbrev pub SourceTold : Type 0
  SourceTold = (m : Heap) → IsAt s m → ToldCell (fill_at background place) into r t (machine_cell (current s.frames) m)

  module _ (store : Store) (k : Heap) (is : OpenSource context lends e source k) (heap : s.heap ≡ store) (frames : current s.frames ≡ e) (phases : (s.phases.number ≡ 0) × (s.phases.draws ≡ 0)) (stands : Stands store k) (told : SourceTold) where
    source_here : ToldCell (fill_at background place) into r t (machine_cell e (quiet k))
    source_here = subst (λ e. ToldCell (fill_at background place) into r t (machine_cell e (quiet k))) frames (told (quiet k) (at_quiet s store k heap phases stands))

    pub source_tells : Tells (source_cell context lends e source p background place) into (end_of r)
    source_tells =
        cell_told (fill_at background place) into is.holding is.taken (source_taken context lends e source p place) (quiet k) r t (machine_cell e (quiet k)) (source_means context lends e source p.form p.ranges.items (index_at p.frame place))
        (source_alone context lends e source k is p.form p.ranges.items (index_at p.frame place)) source_here

    pub source_leaves : IsComputed (end_of r) → IsLeft (OpenSource context lends e source) lends (source_taken context lends e source p place) k t.heap
    source_leaves computed =
        cell_left (SourceIn (code_program context.code.now) source) (code_program context.code.now) lends e k is (fill_at background place) into (source_taken context lends e source p place) r t (machine_cell e (quiet k)) (source_means context lends e source p.form p.ranges.items (index_at p.frame place))
        (source_alone context lends e source k is p.form p.ranges.items (index_at p.frame place)) (source_grown context lends e source k is p.form p.ranges.items (index_at p.frame place)) source_here computed
