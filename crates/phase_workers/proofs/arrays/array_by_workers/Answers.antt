use Rattle.std.proofs.Common.{rules, ◌≡◌, Option, None, Err, length, ap, ◌∙◌, sym, subst}
use Rattle.buffer_heap.specs.declared.heap.BufferId.{BufferId}
use Rattle.counted_code.specs.Loops.{job_does, settled}
use Rattle.phase_books.specs.Alive.{AreAlive}
use Rattle.phase_books.specs.Homes.{handed, left_in}
use Rattle.phase_books.proofs.Booking.{done_has, stop_moved, stopped_has}
use Rattle.phase_workers.specs.Backgrounds.{KeptAside}
use Rattle.phase_workers.proofs.Ending.{alive_after, array_faulted, array_finished, cells_with, computed_as, none_lent, own_stands, spent}
use Rattle.phase_workers.proofs.Standing.{kept_still}
use Rattle.run_loops.specs.declared.state.State.{State}
use Rattle.run_loops.specs.Jobs.{job_of}
use Rattle.run_loops.specs.Running.{IsValue, Told, ToldStop}
use Rattle.run_store.specs.Stands.{lender_in}
use Rattle.run_store.specs.Targets.{target_at}
use Rattle.run_values.specs.Scopes.{current}
use Rattle.sac_base.specs.declared.base.Base.{Base}
use Rattle.sac_base.specs.declared.stop.Stop.TheVariants.{Faulted}
use Rattle.sac_base.specs.Arrays.{size}
use Rattle.phase_workers.proofs.arrays.array_by_workers.Goals as goal

pub background_of-background-requires : goal.background_of-background-requires
background_of-background-requires g c =
    let same : c.in_ok-aside.aside.items ≡ c.deref.result.now = search rules in
    subst (KeptAside c.begin_phase.new.state.heap.own c.args.work.now.result) same
    (kept_still c.args.state.now.heap.own c.begin_phase.new.state.heap.own c.begin_phase.ensures.others c.args.work.now.result c.in_ok-aside.aside.items c.in_ok-aside.ensures)

pub array_cells-end-requires-clause-counted : goal.array_cells-end-requires-clause-counted
array_cells-end-requires-clause-counted g c κs within = c.requires.apart.counted

pub array_cells-end-requires-clause-alive : goal.array_cells-end-requires-clause-alive
array_cells-end-requires-clause-alive g c κs within =
    let a = c.args in
    let s : State = c.begin_phase.new.state in
    alive_after a.state.now.heap.own s.heap.own c.begin_phase.ensures.others (current s.frames) a.live.now
    (subst (λ f. AreAlive a.state.now.heap.own (current f) a.live.now) (sym c.begin_phase.ensures.frames) c.requires.apart.alive)

pub returns-in-Ok-clause-told : goal.returns-in-Ok-clause-told
returns-in-Ok-clause-told g c m at =
    let a = c.args in
    let work = a.work.now in
    let p = work.plan.now in
    let context = a.context.now in
    let s0 : State = a.state.now in
    let s : State = c.begin_phase.new.state in
    let h = s.heap.own in
    let e = current s.frames in
    let frames : s.frames ≡ s0.frames = c.begin_phase.ensures.frames in
    let apart = c.requires.apart in
    let alive : AreAlive h e a.live.now = alive_after s0.heap.own h c.begin_phase.ensures.others e a.live.now (subst (λ f. AreAlive s0.heap.own (current f) a.live.now) (sym frames) apart.alive) in
    let none : s.heap.lent ≡ None = none_lent s.heap.lent (c.begin_phase.ensures.lender ∙ ap lender_in apart.alone) in
    let width : c.in-Some.size ≡ size p.form.shape = search rules in
    let begun = c.in_ok-begun.ensures.begun m (length p.frame) (sym c.count-positions.ensures) at in
    let home = c.array_cells-end.new.begun.books.home in
    let es = c.array_cells-end.new.begun.target.cells.items in
    let t = c.in_ok-begun.begun.target in
    let r = c.finish_phase.result in
    let s3 : State = c.finish_phase.new.state in
    subst (λ f. Told IsValue r s3 (job_does None (job_of context (current f) m work) m)) frames
    (array_finished context e work a.live.now c.get-code.ensures.counted apart.counted h alive c.buffers_are_numbered.ensures.referred m
    s0.heap.own c.begin_phase.ensures.others (own_stands s0.heap m apart.alone at.heap) c.in-Some.size width c.in_ok-aside.aside.items
    c.requires.large c.in_ok-aside.ensures c.background_of-background.result c.background_of-background.ensures
    t.buffer s begun (own_stands s.heap _ none begun.stands.heap) es home c.in-Ok.ensures.computed
    c.end_phase.new.state s3 r (c.end_phase.ensures.heap ∙ (λ i. record { own = handed h home; lent = none i })) c.end_phase.ensures.phases
    (λ k at2.
    subst (λ (x : Base). Told IsValue r s3 (settled (target_at t.buffer) (record { base = x; shape = p.shape; cells = es }) k)) c.base_of.ensures
    (subst (λ (b : Option BufferId). Told IsValue r s3 (settled (target_at b) (record { base = c.base_of.result; shape = p.shape; cells = es }) k)) c.array_cells-end.ensures.buffer
    (c.finish_phase.ensures.told k at2))))

pub returns-in-Err-Faulted-clause-told : goal.returns-in-Err-Faulted-clause-told
returns-in-Err-Faulted-clause-told g c m at =
    let a = c.args in
    let work = a.work.now in
    let p = work.plan.now in
    let context = a.context.now in
    let s0 : State = a.state.now in
    let s : State = c.begin_phase.new.state in
    let h = s.heap.own in
    let e = current s.frames in
    let frames : s.frames ≡ s0.frames = c.begin_phase.ensures.frames in
    let apart = c.requires.apart in
    let counted = c.get-code.ensures.counted in
    let referred = c.buffers_are_numbered.ensures.referred in
    let alive : AreAlive h e a.live.now = alive_after s0.heap.own h c.begin_phase.ensures.others e a.live.now (subst (λ f. AreAlive s0.heap.own (current f) a.live.now) (sym frames) apart.alive) in
    let none : s.heap.lent ≡ None = none_lent s.heap.lent (c.begin_phase.ensures.lender ∙ ap lender_in apart.alone) in
    let width : c.in-Some.size ≡ size p.form.shape = search rules in
    let begun = c.in_ok-begun.ensures.begun m (length p.frame) (sym c.count-positions.ensures) at in
    let home = c.array_cells-end.new.begun.books.home in
    let es = c.array_cells-end.new.begun.target.cells.items in
    let fault = c.in-Err-Faulted.fault in
    let end = c.array_cells-end.result in
    let same : end ≡ Err (Faulted fault) = search rules in
    let b = c.background_of-background.result in
    stop_moved fault s c.stop_phase.new.state _ c.stop_phase.ensures.phases
    (subst (λ f. ToldStop (Faulted fault) s (job_does None (job_of context (current f) m work) m)) frames
    (array_faulted context e work a.live.now counted apart.counted h alive referred m
    s0.heap.own c.begin_phase.ensures.others (own_stands s0.heap m apart.alone at.heap) c.in-Some.size width c.in_ok-aside.aside.items
    c.requires.large c.in_ok-aside.ensures b c.background_of-background.ensures
    c.in_ok-begun.begun.target.buffer s begun (own_stands s.heap _ none begun.stands.heap) es fault
    (computed_as (cells_with context e work a.live.now counted apart.counted h alive referred m b) h (spent context e work a.live.now counted apart.counted h alive referred m) es
    (left_in home end) (Err (Faulted fault)) (ap (left_in home) same) c.array_cells-end.ensures.computed)))

pub end_phase-requires-clause-tally : goal.end_phase-requires-clause-tally
end_phase-requires-clause-tally g c =
    let n = length c.args.work.now.plan.now.frame in
    done_has n c.in_ok-begun.begun.books c.array_cells-end.new.begun.books c.begin_phase.new.state.phases c.array_cells-end.result (c.in_ok-begun.ensures.tally n (sym c.count-positions.ensures)) c.array_cells-end.ensures.booked (search rules)

pub stop_phase-requires : goal.stop_phase-requires
stop_phase-requires g c =
    let n = length c.args.work.now.plan.now.frame in
    record { tally = stopped_has n c.in_ok-begun.begun.books c.array_cells-end.new.begun.books c.begin_phase.new.state.phases c.array_cells-end.result c.in-Err-Faulted.fault (c.in_ok-begun.ensures.tally n (sym c.count-positions.ensures)) c.array_cells-end.ensures.booked (search rules) }
