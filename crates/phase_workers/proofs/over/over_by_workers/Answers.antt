use Rattle.std.proofs.Common.{rules, ◌≡◌, ◌<◌, ℕ, None, Ok, Err, List, ℤ, length, map, unsigned_abs, true, refl, ap, ◌∙◌, sym, subst}
use Rattle.std.specs.Prelude.{◌≢◌}
use Rattle.buffer_heap.specs.Heaps.{HeapValue, IsLive}
use Rattle.counted_code.specs.Values.{Ref}
use Rattle.phase_books.specs.Homes.{ComputesAll, WillHave, handed, left_in}
use Rattle.phase_books.specs.Over.{settled_over}
use Rattle.phase_books.proofs.Booking.{done_has, stopped_has}
use Rattle.phase_loop_cells.specs.Cells.{source_cell, source_taken}
use Rattle.run_loops.specs.declared.cell_loop.CellSource.TheVariants.{Parts}
use Rattle.phase_team.specs.Segments.{cells_from, cost_from}
use Rattle.phase_workers.specs.Covered.{IfEnded}
use Rattle.phase_workers.proofs.Ending.{computed_as, own_stands}
use Rattle.phase_workers.proofs.OverEnding.{over_finished, over_faulted, same_array}
use Rattle.run_loops.proofs.CellPhases.{count_stands}
use Rattle.run_loops.specs.declared.state.State.{State}
use Rattle.run_over.specs.Soles.{IsSoleOf}
use Rattle.run_store.specs.declared.store.Store.{Store}
use Rattle.run_values.specs.declared.value.RunValue.TheVariants.{Buffer}
use Rattle.run_values.specs.Numbers.{numbers}
use Rattle.run_values.specs.Scopes.{current}
use Rattle.run_values.specs.Shown.{value_of}
use Rattle.sac_base.specs.declared.stop.Stop.TheVariants.{Faulted}
use Rattle.phase_workers.proofs.over.over_by_workers.Goals as goal

pub returns-in_ok-settle_over-in-Ok-clause-told : goal.returns-in_ok-settle_over-in-Ok-clause-told
returns-in_ok-settle_over-in-Ok-clause-told g c m at large only rows =
    let a = c.args in
    let s0 : State = a.state.now in
    let h = s0.heap.own in
    let none : s0.heap.lent ≡ None = c.requires.alone in
    let id = c.in-Buffer.buffer in
    let given = c.requires.over in
    let same = same_array id.born given.buffer c.in-Buffer.field-0 given.base (map unsigned_abs (numbers c.in-Buffer.extents)) a.plan.now.shape (sym (ap value_of c.in-Buffer.is) ∙ given.is) in
    let home = c.array_cells-end.new.begun.books.home in
    let es = c.array_cells-end.new.begun.target.cells.items in
    let s : State = record { frames = s0.frames; heap = s0.heap; phases = c.open_books.new.phases } in
    let t : State = record { frames = c.end_phase.new.state.frames; heap = c.settle_over.new.heap; phases = c.end_phase.new.state.phases } in
    let e = current s0.frames in
    let n = length a.plan.now.frame in
    let kept : c.take_spare.new.self ≡ h = c.take_spare.ensures.heap in
    let after = c.end_phase.ensures.heap ∙ ap {B = Store} (λ (k : HeapValue). record { own = handed k home; lent = s0.heap.lent }) kept in
    over_finished a.context.now (current s0.frames) a.parts.now a.plan.now.frame a.plan.now.form a.plan.now.shape a.live.now (value_of a.array) h
    c.phases_end_over.ensures c.get-code.ensures.counted c.requires.counted c.requires.alive c.buffers_are_numbered.ensures.referred given m (own_stands s0.heap m none at.heap) large only rows
    s t (count_stands s0 s true m (length a.plan.now.frame) c.count-positions.result (sym c.count-positions.ensures) refl refl c.in_ok-books.ensures.counted at) c.end_phase.ensures.phases
    es home
    (subst (λ (k : HeapValue). ComputesAll (cells_from (source_cell a.context.now k e (Parts a.parts) a.plan.now None) 0 n) k (cost_from (source_taken a.context.now k e (Parts a.parts) a.plan.now) 0 n) es (Ok home)) kept c.in-Ok.ensures.computed)
    (subst (λ (k : HeapValue). (place : ℕ) → place < n → source_cell a.context.now k e (Parts a.parts) a.plan.now None place ≢ Ok None) kept c.in-Ok.ensures.there) id.place
    (subst (λ n. IsLive h id.place (IsSoleOf n)) same.0 (subst (λ (st : Store). IsLive st.own id.place (IsSoleOf id.born)) after c.in_ok-settle_over-in-Ok.ensures.sole))
    (c.in_ok-settle_over-in-Ok.ensures.settled
    ∙ (λ i. record { own = settled_over (after i).own id.place es; lent = (after i).lent })
    ∙ (λ i. record { own = settled_over (handed h home) id.place es; lent = none i }))
    (Buffer a.plan.now.form.base id c.in-Buffer.extents) (λ i. Ref (same.0 i) a.plan.now.form.base (same.1 i))

pub returns-in_ok-claim_over-in-Err-Faulted-clause-told : goal.returns-in_ok-claim_over-in-Err-Faulted-clause-told
returns-in_ok-claim_over-in-Err-Faulted-clause-told g c m at large only rows =
    let a = c.args in
    let context = a.context.now in
    let s0 : State = a.state.now in
    let h = s0.heap.own in
    let e = current s0.frames in
    let none : s0.heap.lent ≡ None = c.requires.alone in
    let f = c.in-Err-Faulted.fault in
    let end : c.array_cells-end.result ≡ Err (Faulted f) = search rules in
    let home = c.array_cells-end.new.begun.books.home in
    let es = c.array_cells-end.new.begun.target.cells.items in
    let s : State = record { frames = s0.frames; heap = s0.heap; phases = c.open_books.new.phases } in
    let frame = a.plan.now.frame in
    let n = length frame in
    let kept : c.take_spare.new.self ≡ h = c.take_spare.ensures.heap in
    let computed = subst (λ (k : HeapValue). ComputesAll (cells_from (source_cell context k e (Parts a.parts) a.plan.now None) 0 n) k (cost_from (source_taken context k e (Parts a.parts) a.plan.now) 0 n) es (left_in home c.array_cells-end.result)) kept c.array_cells-end.ensures.computed in
    let there = subst (λ (k : HeapValue). IfEnded c.array_cells-end.result ((place : ℕ) → place < n → source_cell context k e (Parts a.parts) a.plan.now None place ≢ Ok None)) kept c.array_cells-end.ensures.there in
    over_faulted context e a.parts.now frame a.plan.now.form a.plan.now.shape a.live.now (value_of a.array) h
    c.phases_end_over.ensures c.get-code.ensures.counted c.requires.counted c.requires.alive c.buffers_are_numbered.ensures.referred c.requires.over m (own_stands s0.heap m none at.heap) large only rows
    s c.stop_phase.new.state (count_stands s0 s true m (length frame) c.count-positions.result (sym c.count-positions.ensures) refl refl c.in_ok-books.ensures.counted at) c.stop_phase.ensures.phases
    es f
    (computed_as (cells_from (source_cell context h e (Parts a.parts) a.plan.now None) 0 (length frame)) h (cost_from (source_taken context h e (Parts a.parts) a.plan.now) 0 (length frame)) es (left_in home c.array_cells-end.result) (Err (Faulted f)) (ap (left_in home) end) computed)
    (subst (λ r. IfEnded r ((place : ℕ) → place < length frame → source_cell context h e (Parts a.parts) a.plan.now None place ≢ Ok None)) end there)

pub end_phase-requires-clause-tally : goal.end_phase-requires-clause-tally
end_phase-requires-clause-tally g c =
    done_has (length c.args.plan.now.frame) c.in_ok-books.books c.array_cells-end.new.begun.books c.open_books.new.phases c.array_cells-end.result
    (subst (λ (k : ℕ). WillHave k c.in_ok-books.books.count c.open_books.new.phases) c.count-positions.ensures c.in_ok-books.ensures.tally) c.array_cells-end.ensures.booked (search rules)

pub stop_phase-requires : goal.stop_phase-requires
stop_phase-requires g c =
    record {
      tally = stopped_has (length c.args.plan.now.frame) c.in_ok-books.books c.array_cells-end.new.begun.books c.open_books.new.phases c.array_cells-end.result c.in-Err-Faulted.fault
          (subst (λ (k : ℕ). WillHave k c.in_ok-books.books.count c.open_books.new.phases) c.count-positions.ensures c.in_ok-books.ensures.tally) c.array_cells-end.ensures.booked (search rules);
    }
