-- Phases whose result is written over an array.
use Rattle.std.proofs.Common.{◌≡◌, ℕ, ◌+◌, ◌<◌, ◌++◌, Bool, true, false, eqb, List, [], ◌∷◌, length, get_or, ℤ, Option, Some, Result, Ok, Err, refl, ap, ◌∙◌, sym, subst, arith}
use Rattle.std.specs.Prelude.{◌==◌}
use Rattle.sac_base.specs.declared.base.Base.{Base}
use Rattle.sac_base.specs.declared.form.Form.{Form}
use Rattle.sac_base.specs.declared.grid.Grid1.{Grid1}
use Rattle.sac_base.specs.declared.stop.Stop.{Stop}
use Rattle.sac_base.specs.declared.stop.Stop.TheVariants.{Faulted, Memory}
use Rattle.sac_base.specs.Arrays.{ArrayValue, size}
use Rattle.sac_base.specs.Grids.{members}
use Rattle.sac_base.specs.Outcomes.{Ends}
use Rattle.sac_base.specs.Places.{vector_at}
use Rattle.sac_base.specs.WithLoops.{each}
use Rattle.core_ir.specs.declared.tree.Var.{Var}
use Rattle.core_ir.specs.Binders.{is_in}
use Rattle.core_ir.specs.Meaning.{Env, cells, cell_at, cell_form, extents, joined}
use Rattle.core_facts.specs.calls.Nests.{CallsAllParts}
use Rattle.core_loops.specs.folds.Cells.{IsBox}
use Rattle.core_loops.proofs.folds.Places.{members_are, index_of_place}
use Rattle.counted_code.specs.Counts.{IsWellCounted, UnmarkedParts, CountedParts, group_results}
use Rattle.counted_code.specs.Loops.{Job, Source, Old, cell_does, cells_do, job_does, part_holder, write_cell}
use Rattle.counted_code.specs.Machine.{Values, code_cells}
use Rattle.counted_code.specs.Terms.{CodePartsTerm, CodeProgram, core_of_code, core_of_parts}
use Rattle.counted_code.specs.Values.{Heap, Ref, Ended, Done, Failed, go_on, is_small, count_of, cells_of}
use Rattle.counted_laws.specs.Simulation.{AllBacked, Shows}
use Rattle.counted_laws.specs.mark_removal.Reached.{IsOne, ReachesNone}
use Rattle.phase_loop_laws.proofs.mark_laws.Jobs.{job_over}
use Rattle.phase_loop_laws.proofs.mark_laws.Places.{frame_size}
use Rattle.phase_laws.specs.Spending.{parts_take, total}
use Rattle.phase_loop_laws.specs.Levels.{does_at, means_at, spends_at}
use Rattle.phase_loop_laws.specs.Worked.{IsResult}
use Rattle.phase_loop_laws.proofs.Cells.{EndsAs}
use Rattle.phase_loop_laws.proofs.reached_marks.Standing.{clear_parts_stand}
use Rattle.phase_loop_laws.specs.over_phases.Own.{PartsReadOwn}
use Rattle.phase_loop_laws.specs.over_phases.Statements.{AreElements, EndsOver, IsApart, PassedOver, parts_job, reusing}
use Rattle.phase_loop_laws.proofs.over_phases.Cells.{one_cell}
use Rattle.phase_loop_laws.proofs.over_phases.Reading.{backed_at, env_at, same_but, shows_at}
use Rattle.phase_loop_laws.proofs.over_phases.Writing.{AreReady, Before, EndsWritten, IsReady, cells_written, ready_each}

-- ---- how the job ends

-- by what the cells have ended with
job_ends : (j : Job) (b : ℕ) (base old : Base) (shape ns : List ℕ) (n : ℕ) (m : Heap) (sole : count_of m b ≡ 1) → j.form.base ≡ base → j.shape ≡ shape → (es : List ℤ) (end : Result (Unit {0}) Stop)
    → (r : Ends (List (Option ArrayValue))) → IsResult (joined base shape) base shape r es end → (run : Ended (List (Option ArrayValue))) → EndsWritten b m sole 0 n (reusing (length j.indices) m) run r
    → job_does (Some (Ref b old ns)) j m ≡ go_on run (λ found after. Done (Ref b base shape) after) → EndsOver j (Ref b old ns) b n m es end
job_ends j b base old shape ns n m sole based shaped es (Err Memory) r is run written does = tt
job_ends j b base old shape ns n m sole based shaped es (Err (Faulted f)) r is run written does =
    go run (subst (EndsWritten b m sole 0 n (reusing (length j.indices) m) run) is written) does
  where
    go : (run : Ended (List (Option ArrayValue))) → EndsWritten b m sole 0 n (reusing (length j.indices) m) run (Err f) → job_does (Some (Ref b old ns)) j m ≡ go_on run (λ found after. Done (Ref b base shape) after) → job_does (Some (Ref b old ns)) j m ≡ Failed f (m.phases ++ length j.indices ∷ [])
    go (Failed g q) w does = does ∙ (λ i. Failed (w.0 i) (w.1 i))
    go (Done ds l) w does = elim w [ ]
job_ends j b base old shape ns n m sole based shaped es (Ok done) r is run written does =
    go run (subst (EndsWritten b m sole 0 n (reusing (length j.indices) m) run) is.1 written) does
  where
    go : (run : Ended (List (Option ArrayValue))) → EndsWritten b m sole 0 n (reusing (length j.indices) m) run (Ok is.0) → job_does (Some (Ref b old ns)) j m ≡ go_on run (λ found after. Done (Ref b base shape) after) → EndsOver j (Ref b old ns) b n m es (Ok done)
    go (Done ds l) w does = (
      l,
      does ∙ (λ i. Done (Ref b (sym based i) (sym shaped i)) l),
      subst (λ xs. PassedOver b xs n (reusing (length j.indices) m) l) (ap (λ (a : ArrayValue). a.cells) is.2) w.1,
    )
    go (Failed g q) w does = elim w [ ]

-- ---- a loop of a program

module _ (code : CodeProgram) (counted : IsWellCounted code) (reached : ℕ → Bool) (clear : ReachesNone code reached) (turns left nest : ℕ) (parts : CodePartsTerm) (plain : UnmarkedParts parts) (calls : CallsAllParts (IsOne reached) (core_of_parts parts)) (live : List Var) (counts : CountedParts (group_results (core_of_code code)) live parts) where
  module _ (m : Heap) (e : Values) (ρ : Env) (backed : AllBacked (λ c. count_of m c) e live) (shows : Shows m e ρ live) (v : Var) (b : ℕ) (base old : Base) (shape : List ℕ) (inside : is_in v live ≡ true) (is : e v ≡ Ref b old shape) (sole : count_of m b ≡ 1)
      (apart : (y : Var) → is_in y live ≡ true → eqb v.0 y.0 ≡ false → IsApart b (e y)) where
    abbrev form : Form
    form = record { base = base; shape = [] }

    abbrev source : List ℤ → Option Source
    source = part_holder (code_cells (does_at code turns left nest) turns parts e)

    abbrev cell : Env → List ℤ → Ends (Option ArrayValue)
    cell f = cell_at (cell_form base []) (cells (means_at code turns left nest) turns (core_of_parts parts) f)

    abbrev takes : Env → List ℤ → ℕ
    takes f = parts_take (means_at code turns left nest) turns (spends_at code turns left nest) parts f

    -- a cell in a heap in which the elements from a place on are as they were
    cell_now : (p : ℕ) (w : List ℤ) (k : Heap) → Before b m sole p k → EndsAs (takes (env_at m e ρ v b sole old shape is k) w) k (cell_does form (source w) k) (cell (env_at m e ρ v b sole old shape is k) w)
    cell_now p w k before =
        let f = env_at m e ρ v b sole old shape is k in
        one_cell k form source (cell f) (takes f)
        (clear_parts_stand code counted reached clear turns left nest parts plain calls live counts f base [] k e (backed_at m e ρ v b sole old shape is p k before live backed) (shows_at m e ρ v b sole old shape is p k before live apart backed shows)) w

    module _ (frame : List Grid1) (box : IsBox frame) (spans : shape ≡ extents frame) (own : PartsReadOwn (means_at code turns left nest) turns (spends_at code turns left nest) parts base v (members frame) ρ) (elements : AreElements (cell ρ) (members frame)) where
      index_is : (p : ℕ) → p < length (members frame) → (p < size shape) × (get_or (members frame) p [] ≡ vector_at shape p)
      index_is p lt =
          let long = frame_size frame box in
          let below : p < size (extents frame) = omega (arith, long, lt) in
          subst (λ ns. (p < size ns) × (get_or (members frame) p [] ≡ vector_at ns p)) (sym spans)
          (below, ap (λ vs. get_or vs p []) (members_are frame box) ∙ index_of_place (extents frame) p [] below)

      module _ (long : length (cells_of m b) ≡ size shape) (large : is_small shape ≡ false) (es : List ℤ) (end : Result (Unit {0}) Stop) (result : IsResult (joined base shape) base shape (each (cell ρ) (members frame)) es end) where
        -- is the cell on the array as it was
        ready : (p : ℕ) → p < length (members frame) → IsReady b m sole form source (cell ρ) (takes ρ) p (get_or (members frame) p [])
        ready p lt = (
          (λ k before.
              (let w = get_or (members frame) p [] in
              let f = env_at m e ρ v b sole old shape is k in
              let index = index_is p lt in
              let same = own p f lt (same_but m e ρ v b sole old shape is p k before live inside shows long w index.0 index.1) in
              subst (λ n. EndsAs n k (cell_does form (source w) k) (cell ρ w)) same.1
              (subst (λ r. EndsAs (takes f w) k (cell_does form (source w) k) r) same.0 (cell_now p w k before)))),
          elements p lt,
        )

        all_ready : AreReady b m sole form source (cell ρ) (takes ρ) 0 (members frame)
        all_ready =
            ready_each b m sole form source (cell ρ) (takes ρ) (members frame) 0
            (λ i q e lt. subst (λ t. IsReady b m sole form source (cell ρ) (takes ρ) t (get_or (members frame) i [])) (sym (from_zero i q e)) (ready i lt))
          where
            from_zero : (i q : ℕ) → q ≡ 0 + i → q ≡ i
            from_zero i q e = omega (arith, e)

        abbrev job : Job
        job = parts_job code turns left nest parts e base shape frame

        abbrev begun : Heap
        begun = reusing (length (members frame)) m

        as_long : length (cells_of m b) ≡ 0 + length (members frame)
        as_long = let n = frame_size frame box in let s = ap size spans in omega (arith, long, n, s)

        written : EndsWritten b m sole 0 (total (takes ρ) (members frame)) begun (cells_do form source (write_cell (Old b)) 0 (members frame) begun) (each (cell ρ) (members frame))
        written =
            cells_written b m sole form source (cell ρ) (takes ρ) (members frame) 0 begun all_ready
            (record { counts = λ c. refl; buffers = λ c e le. refl; left = refl; long = refl }) as_long

        over : EndsOver job (Ref b old shape) b (total (takes ρ) (members frame)) m es end
        over =
            job_ends job b base old shape shape (total (takes ρ) (members frame)) m sole refl refl es end (each (cell ρ) (members frame)) result (cells_do form source (write_cell (Old b)) 0 (members frame) begun) written
            (job_over job b old shape m large (ap (λ n. n == 1) sole))

        pub phase_ends_over : (j : Job) → j ≡ job → EndsOver j (Ref b old shape) b (total (takes ρ) (members frame)) m es end
        phase_ends_over j same =
            subst (λ (j : Job). EndsOver j (Ref b old shape) b (total (takes ρ) (members frame)) m es end) (sym same) over
