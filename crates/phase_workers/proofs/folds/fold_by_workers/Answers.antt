use Rattle.std.proofs.Common.{rules, ◌≡◌, Option, None, Ok, Err, length, refl, ap, ◌∙◌, sym, subst, true}
use Rattle.buffer_heap.specs.declared.heap.BufferId.{BufferId}
use Rattle.std.specs.Prelude.{fold}
use Rattle.counted_code.specs.Loops.{job_does, settled}
use Rattle.phase_books.specs.Alive.{AreAlive}
use Rattle.phase_books.specs.Homes.{handed, left_in}
use Rattle.phase_books.proofs.Booking.{done_has, stop_moved, stopped_has}
use Rattle.phase_workers.proofs.Ending.{alive_after, cells_with, none_lent, own_stands, spent}
use Rattle.phase_workers.proofs.FoldEnding.{combined_as, fold_faulted, fold_finished}
use Rattle.run_loops.specs.declared.state.State.{State}
use Rattle.run_loops.specs.Jobs.{cells_job}
use Rattle.run_loops.specs.Running.{IsValue, Told, ToldStop}
use Rattle.run_store.specs.Stands.{lender_in}
use Rattle.run_store.specs.Targets.{target_at}
use Rattle.run_values.specs.Scopes.{current}
use Rattle.sac_base.specs.declared.stop.Stop.TheVariants.{Faulted}
use Rattle.sac_base.specs.Arrays.{IsFull}
use Rattle.sac_base.specs.WithLoops.{combined}
use Rattle.phase_workers.proofs.folds.fold_by_workers.Goals as goal

pub fold_in-end-requires-clause-counted : goal.fold_in-end-requires-clause-counted
fold_in-end-requires-clause-counted g c κs within = c.requires.apart.counted

pub fold_in-end-requires-clause-alive : goal.fold_in-end-requires-clause-alive
fold_in-end-requires-clause-alive g c κs within =
    let a = c.args in
    let s : State = c.begin_phase.new.state in
    alive_after a.state.now.heap.own s.heap.own c.begin_phase.ensures.others (current s.frames) a.live.now
    (subst (λ f. AreAlive a.state.now.heap.own (current f) a.live.now) (sym c.begin_phase.ensures.frames) c.requires.apart.alive)

pub returns-in-Ok-clause-told : goal.returns-in-Ok-clause-told
returns-in-Ok-clause-told g c m at =
    let a = c.args in
    let work = a.work.now in
    let p = work.plan.now in
    let context = a.context.now in
    let s0 : State = a.state.now in
    let s : State = c.begin_phase.new.state in
    let h = s.heap.own in
    let e = current s.frames in
    let frames : s.frames ≡ s0.frames = c.begin_phase.ensures.frames in
    let apart = c.requires.apart in
    let counted = c.get-code.ensures.counted in
    let referred = c.buffers_are_numbered.ensures.referred in
    let full : IsFull a.neutral = c.cells-cells.ensures.array.full in
    let es = c.fold_in-end.new.begun.target.cells.items in
    let alive : AreAlive h e a.live.now = alive_after s0.heap.own h c.begin_phase.ensures.others e a.live.now (subst (λ f. AreAlive s0.heap.own (current f) a.live.now) (sym frames) apart.alive) in
    let none : s.heap.lent ≡ None = none_lent s.heap.lent (c.begin_phase.ensures.lender ∙ ap lender_in apart.alone) in
    let home = c.fold_in-end.new.begun.books.home in
    let begun = c.in_ok-begun.ensures.begun m (length p.frame) (sym c.count-positions.ensures) at in
    let buffer = c.in_ok-begun.begun.target.buffer in
    let r = c.finish_phase.result in
    let s3 : State = c.finish_phase.new.state in
    subst (λ f. Told IsValue r s3 (job_does None (cells_job context (current f) m work true (fold (combined a.op) a.neutral)) m)) frames
    (fold_finished context e work a.live.now counted apart.counted h alive referred m a.op a.neutral c.requires.op c.requires.form full
    buffer s begun (own_stands s.heap _ none begun.stands.heap) es home
    (combined_as a.op (cells_with context e work a.live.now counted apart.counted h alive referred m None) h (spent context e work a.live.now counted apart.counted h alive referred m) c.into_cells-value.result.items a.neutral.cells es (Ok home) (Ok home) refl c.into_cells-value.ensures c.in-Ok.ensures.combined)
    c.end_phase.new.state s3 r (c.end_phase.ensures.heap ∙ (λ i. record { own = handed h home; lent = none i })) c.end_phase.ensures.phases
    (λ k at2.
    subst (λ (b : Option BufferId). Told IsValue r s3 (settled (target_at b) (record { base = p.form.base; shape = p.form.shape; cells = es }) k)) c.fold_in-end.ensures.buffer
    (c.finish_phase.ensures.told k at2)))

pub returns-in-Err-Faulted-clause-told : goal.returns-in-Err-Faulted-clause-told
returns-in-Err-Faulted-clause-told g c m at =
    let a = c.args in
    let work = a.work.now in
    let p = work.plan.now in
    let context = a.context.now in
    let s0 : State = a.state.now in
    let s : State = c.begin_phase.new.state in
    let h = s.heap.own in
    let e = current s.frames in
    let frames : s.frames ≡ s0.frames = c.begin_phase.ensures.frames in
    let apart = c.requires.apart in
    let counted = c.get-code.ensures.counted in
    let referred = c.buffers_are_numbered.ensures.referred in
    let full : IsFull a.neutral = c.cells-cells.ensures.array.full in
    let es = c.fold_in-end.new.begun.target.cells.items in
    let alive : AreAlive h e a.live.now = alive_after s0.heap.own h c.begin_phase.ensures.others e a.live.now (subst (λ f. AreAlive s0.heap.own (current f) a.live.now) (sym frames) apart.alive) in
    let none : s.heap.lent ≡ None = none_lent s.heap.lent (c.begin_phase.ensures.lender ∙ ap lender_in apart.alone) in
    let begun = c.in_ok-begun.ensures.begun m (length p.frame) (sym c.count-positions.ensures) at in
    let fault = c.in-Err-Faulted.fault in
    let end = c.fold_in-end.result in
    let same : end ≡ Err (Faulted fault) = search rules in
    let home = c.fold_in-end.new.begun.books.home in
    stop_moved fault s c.stop_phase.new.state _ c.stop_phase.ensures.phases
    (subst (λ f. ToldStop (Faulted fault) s (job_does None (cells_job context (current f) m work true (fold (combined a.op) a.neutral)) m)) frames
    (fold_faulted context e work a.live.now counted apart.counted h alive referred m a.op a.neutral c.requires.op c.requires.form full
    c.in_ok-begun.begun.target.buffer s begun (own_stands s.heap _ none begun.stands.heap) es fault
    (combined_as a.op (cells_with context e work a.live.now counted apart.counted h alive referred m None) h (spent context e work a.live.now counted apart.counted h alive referred m) c.into_cells-value.result.items a.neutral.cells es
    (left_in home end) (Err (Faulted fault)) (ap (left_in home) same) c.into_cells-value.ensures c.fold_in-end.ensures.combined)))

pub end_phase-requires-clause-tally : goal.end_phase-requires-clause-tally
end_phase-requires-clause-tally g c =
    let n = length c.args.work.now.plan.now.frame in
    done_has n c.in_ok-begun.begun.books c.fold_in-end.new.begun.books c.begin_phase.new.state.phases c.fold_in-end.result (c.in_ok-begun.ensures.tally n (sym c.count-positions.ensures)) c.fold_in-end.ensures.booked (search rules)

pub stop_phase-requires : goal.stop_phase-requires
stop_phase-requires g c =
    let n = length c.args.work.now.plan.now.frame in
    record { tally = stopped_has n c.in_ok-begun.begun.books c.fold_in-end.new.begun.books c.begin_phase.new.state.phases c.fold_in-end.result c.in-Err-Faulted.fault (c.in_ok-begun.ensures.tally n (sym c.count-positions.ensures)) c.fold_in-end.ensures.booked (search rules) }
