-- What a phase of workers tells of the machine.
use Rattle.std.proofs.Common.{◌≡◌, ℕ, Bool, true, false, List, [], ◌∷◌, ◌++◌, length, take, ℤ, Option, Some, None, Result, Ok, Err, refl, ap, ◌∙◌, sym, subst}
use Rattle.std.specs.Prelude.{IsSomeAnd, IsTrue, not, ◌||◌}
use Rattle.std.proofs.Math.ListN.{get_or}
use Rattle.std.proofs.Math.Seq.{take-append_seam}
use Rattle.array_with_loops.specs.declared.plans.Plan.{Plan}
use Rattle.array_with_loops.specs.Cells.{array_from}
use Rattle.array_with_loops.specs.Plans.{plan_of}
use Rattle.buffer_heap.specs.declared.heap.BufferId.{BufferId}
use Rattle.buffer_heap.specs.Heaps.{Held, HeapValue, at, IsLive, IsNamed}
use Rattle.core_ir.specs.declared.tree.Var.{Var}
use Rattle.counted_code.specs.Counts.{IsWellCounted}
use Rattle.counted_code.specs.Loops.{Job, count_phase, job_does, settled}
use Rattle.counted_code.specs.Machine.{Values}
use Rattle.counted_code.specs.Values.{Heap, Value, Small, Ref, is_small, read}
use Rattle.counted_code.specs.View.{code_program}
use Rattle.phase_books.specs.Alive.{AreAlive, IsAlive}
use Rattle.phase_books.specs.Homes.{ComputesAll, IsBehind, handed}
use Rattle.phase_books.proofs.Beginning.{claim_phases}
use Rattle.phase_count.proofs.Tallying.{counts_as, counts_on}
use Rattle.phase_loop_cells.specs.Cells.{as_cell, fill_at, index_at, source_cell, source_means, source_takes, source_taken, stands_at}
use Rattle.phase_loop_cells.specs.Opened.{SourceIn}
use Rattle.phase_loop_cells.specs.declared.copies.Background.{Background}
use Rattle.phase_loop_laws.specs.Ordered.{begun, is_phase}
use Rattle.phase_loop_laws.specs.Worked as worked
use Rattle.phase_loop_laws.specs.Worked.{IsResult, PhaseEnds, filled}
use Rattle.phase_loop_laws.proofs.Jobs.{phase_ends}
use Rattle.phase_loop_laws.proofs.Places.{costs_in_all}
use Rattle.phase_loop_laws.proofs.Results.{array_made, parts_made}
use Rattle.phase_team.specs.Endings.{IsArray}
use Rattle.phase_team.specs.Segments.{cells_from, cost_from}
use Rattle.phase_workers.specs.Backgrounds.{IsBackground, KeptAside, base_made}
use Rattle.phase_workers.specs.Phases.{MakesLarge}
use Rattle.phase_workers.proofs.Handing.{handed_stands}
use Rattle.phase_workers.proofs.Openings.{AreReferred, alone_source}
use Rattle.phase_workers.proofs.Standing.{lie_as_read, read_base, stands_in}
use Rattle.run_loops.specs.declared.cell_loop.CellLoop.{CellLoop}
use Rattle.run_loops.specs.declared.cell_loop.LoopResult.{LoopResult}
use Rattle.run_loops.specs.declared.cell_loop.LoopResult.TheVariants.{Filled, Joined, Folded}
use Rattle.run_loops.specs.declared.state.Context.{Context}
use Rattle.run_loops.specs.declared.state.State.{State}
use Rattle.run_loops.specs.Jobs.{cells_job, folds_of, job_of, result_of}
use Rattle.run_loops.specs.Loops.{IsBegun}
use Rattle.run_loops.specs.Running.{IsAt, IsValue, Told, ToldStop}
use Rattle.run_store.specs.Lents.{LentValue, Lender}
use Rattle.run_store.specs.Stands.{StandsFor, Stands, lender_in}
use Rattle.run_store.specs.Targets.{target_at}
use Rattle.run_store.specs.declared.store.Store.{Store}
use Rattle.run_store.proofs.Opening.{main_stands}
use Rattle.run_values.specs.declared.value.RunValue.{RunValue}
use Rattle.run_values.specs.Shown.{base_of, value_of}
use Rattle.sac_base.specs.declared.base.Base.{Base}
use Rattle.sac_base.specs.declared.faults.Fault.{Fault}
use Rattle.sac_base.specs.declared.stop.Stop.{Stop}
use Rattle.sac_base.specs.declared.stop.Stop.TheVariants.{Faulted}
use Rattle.sac_base.specs.Arrays.{ArrayValue, size}
use Rattle.sac_base.specs.Outcomes.{Ends}
use Rattle.sac_base.specs.WithLoops.{each}
use Rattle.wl_core.specs.Machine.{CellValue}

-- ---- variables that stay alive

alive_value : (h k : HeapValue) → ((b : ℕ) (x : Held) → at h b ≡ Some x → at k b ≡ Some x) → (v : Value) → IsAlive h v → IsAlive k v
alive_value h k others (Small a) alive = tt
alive_value h k others (Ref b base shape) alive = (alive.0, go (at h alive.0) refl alive.1)
  where
    go : (o : Option Held) → at h alive.0 ≡ o → IsSomeAnd o (IsNamed b) → IsLive k alive.0 (IsNamed b)
    go None is live = elim live [ ]
    go (Some x) is live = subst (λ o. IsSomeAnd o (IsNamed b)) (sym (others alive.0 x is)) live

pub alive_after : (h k : HeapValue) → ((b : ℕ) (x : Held) → at h b ≡ Some x → at k b ≡ Some x) → (e : Values) (xs : List Var) → AreAlive h e xs → AreAlive k e xs
alive_after h k others e xs alive n d low = alive_value h k others (e (get_or xs n d)) (alive n d low)

-- ---- stores with nothing lent

abbrev IsSome : Option Lender → Type 0
IsSome None = ⊥
IsSome (Some l) = Unit {0}

pub none_lent : (o : Option LentValue) → lender_in o ≡ None → o ≡ None
none_lent None is = refl
none_lent (Some l) is = elim (subst IsSome is tt) [ ]

pub own_stands : (s : Store) (m : Heap) → s.lent ≡ None → Stands s m → StandsFor s.own m
own_stands s m none stands = (subst (λ (o : Option LentValue). Stands (record { own = s.own; lent = o }) m) none stands).all

pub computed_as : (cells : List CellValue) (h : HeapValue) (n : ℕ) (es : List ℤ) (r t : Result HeapValue Stop) → r ≡ t → ComputesAll cells h n es r → ComputesAll cells h n es t
computed_as cells h n es r t same computed = subst (ComputesAll cells h n es) same computed

-- ---- cells that were handed out as a slice

pub taken_back : (rest : List ℤ) (n : ℕ) (cells : List ℤ) → length cells ≡ n → take n (cells ++ rest) ≡ cells
taken_back rest n cells same = ap (λ k. take k (cells ++ rest)) (sym same) ∙ take-append_seam cells rest

-- ---- cells, in the words of both

pub same_cell : (fill : Option (List ℤ)) (r : Ends (Option ArrayValue)) → as_cell fill r ≡ worked.as_cell fill r
same_cell fill (Ok None) = refl
same_cell fill (Ok (Some a)) = refl
same_cell fill (Err f) = refl

-- ---- phases of any kind

module _ (job : Job) (m : Heap) (base : Base) (shape : List ℕ) (n : ℕ) (t : Option BufferId) (s : State) (is : IsBegun (target_at t) s (begun job m)) where
  abbrev made : List ℤ → ArrayValue
  made es = record { base = base; shape = shape; cells = es }

  -- the finished result, in the heap that has taken over what the workers have counted
  pub phase_finished : (h home : HeapValue) → AreReferred h → StandsFor h (begun job m).heap → (es : List ℤ) → PhaseEnds job base shape n m es (Ok tt) → IsBehind h n home
      → (s2 s3 : State) (r : Result RunValue Stop) → s2.heap ≡ record { own = handed h home; lent = None } → s2.phases ≡ s.phases
      → ((k : Heap) → IsAt s2 k → Told IsValue r s3 (settled (target_at t) (made es) k)) → Told IsValue r s3 (job_does None job m)
  phase_finished h home referred stands es ends behind s2 s3 r heap phases finished =
      let there = handed_stands h home (begun job m).heap ends.heap n referred stands ends.passed behind in
      subst (Told IsValue r s3) (sym (ends.ends ∙ ap (λ c. settled c (made es) ends.heap) (sym is.target)))
      (finished ends.heap (record {
        heap = subst (λ k. Stands k ends.heap) (sym heap) (main_stands (handed h home) ends.heap there);
        phases = counts_as s.phases s2.phases (begun job m).heap.phases ends.heap.phases phases (sym ends.passed.phases) is.stands.phases;
      }))

  -- the fault of the least position. The phase is counted
  pub phase_faulted : (es : List ℤ) (f : Fault) → PhaseEnds job base shape n m es (Err (Faulted f)) → ToldStop (Faulted f) s (job_does None job m)
  phase_faulted es f faulted =
      subst (ToldStop (Faulted f) s) (sym faulted)
      (refl, counts_on s.phases (begun job m).heap.phases (m.phases ++ length job.indices ∷ []) (claim_phases (is_small job.shape) (size job.shape) (count_phase true (length job.indices) m)) is.stands.phases)

-- ---- loops

module _ (context : Context) (e : Values) (work : CellLoop) (xs : List Var) (counted : IsWellCounted (code_program context.code.now)) (here : SourceIn (code_program context.code.now) work.source xs) (h : HeapValue) (alive : AreAlive h e xs) (referred : AreReferred h) (m : Heap) where
  abbrev p : Plan
  p = work.plan.now

  abbrev pub cell : List ℤ → Ends (Option ArrayValue)
  cell = source_means context h e work.source p.form p.ranges.items

  abbrev takes : List ℤ → ℕ
  takes = source_takes context h e work.source p.ranges.items

  abbrev pub spent : ℕ
  spent = cost_from (source_taken context h e work.source p) 0 (length p.frame)

  abbrev pub cells_with : Option Background → List CellValue
  cells_with b = cells_from (source_cell context h e work.source p b) 0 (length p.frame)

  -- what is made of the cells is what the machine makes of them
  pub loop_ends : (folds : Bool) (result : List (Option ArrayValue) → ArrayValue) → IsTrue (folds || not (is_small p.shape)) → StandsFor h (begun (cells_job context e m work folds result) m).heap
      → (base : Base) (shape : List ℕ) (es : List ℤ) (end : Result (Unit {0}) Stop) → IsResult result base shape (each cell p.frame) es end → PhaseEnds (cells_job context e m work folds result) base shape spent m es end
  loop_ends folds result phase stands base shape es end is =
      let job = cells_job context e m work folds result in
      subst (λ n. PhaseEnds job base shape n m es end) (sym (costs_in_all takes p.frame))
      (phase_ends m job phase cell takes (alone_source context h e xs counted alive referred (begun job m).heap m stands p.form p.ranges.items work.source here) base shape es end is)

  -- ---- arrays

  module _ (h0 : HeapValue) (others : (b : ℕ) (x : Held) → at h0 b ≡ Some x → at h b ≡ Some x) (stands0 : StandsFor h0 m) (n : ℕ) (width : n ≡ size p.form.shape) (aside : List ℤ) where
    array_result : (result : LoopResult) → MakesLarge result p → KeptAside h0 result aside → (b : Option Background) → IsBackground h result n b → (es : List ℤ) (end : Result (Unit {0}) Stop)
        → IsArray (cells_with b) es end → IsResult (result_of m result (plan_of p)) (base_made result p.form) p.shape (each cell p.frame) es end
    array_result (Filled v old) large kept None is es end array = elim is [ ]
    array_result (Filled v old) large kept (Some b) is es end array =
        let a = read m (value_of v) in
        let cells_are : b.cells.now ≡ a.cells = lie_as_read h0 h others m stands0 v aside b.cells.now kept is.2 in
        subst (λ (base : Base). IsResult (array_from old a (plan_of p)) base p.shape (each cell p.frame) es end) (read_base m (value_of v))
        (array_made cell p.frame old a (plan_of p) b.size (is.1 ∙ width) es end
        (subst (λ (f : ℕ → CellValue). IsArray (cells_from f 0 (length p.frame)) es end) (λ i place. same a b is.0 cells_are place i) array))
      where
        same : (a : ArrayValue) (b : Background) → b.old ≡ old → b.cells.now ≡ a.cells → (place : ℕ) → as_cell (fill_at (Some b) place) (cell (index_at p.frame place)) ≡ worked.as_cell (filled old a b.size place) (cell (index_at p.frame place))
        same a b old_is cells_are place =
            let r = cell (index_at p.frame place) in
            (λ i. as_cell (Some (stands_at (old_is i) (cells_are i) b.size place)) r)
            ∙ ap (λ (zs : List ℤ). as_cell (Some zs) r) (stands_in old a b.size place)
            ∙ same_cell (filled old a b.size place) r
    array_result Joined large kept b none es end array =
        parts_made cell p.frame p.form.base p.shape es end
        (subst (λ (f : ℕ → CellValue). IsArray (cells_from f 0 (length p.frame)) es end) (λ i place. same place i) array)
      where
        same : (place : ℕ) → as_cell (fill_at b place) (cell (index_at p.frame place)) ≡ worked.as_cell None (cell (index_at p.frame place))
        same place =
            (λ i. as_cell (fill_at (none i) place) (cell (index_at p.frame place))) ∙ same_cell None (cell (index_at p.frame place))
    array_result (Folded op neutral) large kept b is es end array = elim large [ ]

    large_phase : (result : LoopResult) → MakesLarge result p → IsTrue (folds_of result || not (is_small p.shape))
    large_phase (Filled v old) large = subst (λ (small : Bool). IsTrue (not small)) (sym large) refl
    large_phase Joined large = subst (λ (small : Bool). IsTrue (not small)) (sym large) refl
    large_phase (Folded op neutral) large = elim large [ ]

    module _ (large : MakesLarge work.result p) (kept : KeptAside h0 work.result aside) (b : Option Background) (is_background : IsBackground h work.result n b) where
      abbrev job : Job
      job = job_of context e m work

      array_ends : StandsFor h (begun job m).heap → (es : List ℤ) (end : Result (Unit {0}) Stop) → IsArray (cells_with b) es end → PhaseEnds job (base_made work.result p.form) p.shape spent m es end
      array_ends stands es end array =
          loop_ends (folds_of work.result) (result_of m work.result (plan_of p)) (large_phase work.result large) stands (base_made work.result p.form) p.shape es end
          (array_result work.result large kept b is_background es end array)

      module _ (t : Option BufferId) (s : State) (is : IsBegun (target_at t) s (begun job m)) (stands : StandsFor h (begun job m).heap) where
        -- the finished result
        pub array_finished : (es : List ℤ) (home : HeapValue) → ComputesAll (cells_with b) h spent es (Ok home)
            → (s2 s3 : State) (r : Result RunValue Stop) → s2.heap ≡ record { own = handed h home; lent = None } → s2.phases ≡ s.phases
            → ((k : Heap) → IsAt s2 k → Told IsValue r s3 (settled (target_at t) (record { base = base_made work.result p.form; shape = p.shape; cells = es }) k)) → Told IsValue r s3 (job_does None job m)
        array_finished es home computed =
            phase_finished job m (base_made work.result p.form) p.shape spent t s is h home referred stands es (array_ends stands es (Ok tt) computed.0) computed.1

        -- the fault of the least position
        pub array_faulted : (es : List ℤ) (f : Fault) → ComputesAll (cells_with b) h spent es (Err (Faulted f)) → ToldStop (Faulted f) s (job_does None job m)
        array_faulted es f faulted =
            phase_faulted job m (base_made work.result p.form) p.shape spent t s is es f (array_ends stands es (Err (Faulted f)) faulted)
