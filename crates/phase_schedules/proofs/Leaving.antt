-- Where workers leave when they are through, every chunk is done once all have left.
use Rattle.std.proofs.Common.{◌≡◌, ◌≢◌, ℕ, zero, suc, ◌+◌, ◌-◌, ◌<◌, ◌≤◌, ◌⊎◌, min, Bool, true, cond, ltb, List, [], ◌∷◌, ◌++◌, ℤ, length, set, refl, sym, ap, subst, ◌∙◌, inl, inr, ⊎_elim, arith}
use Rattle.std.proofs.lemmas.Bool.{cases_eq, cases_lt, lt-ltb}
use mathlib.Core.Option.{some, Option as Home}
use lib.ListN.{get_elem?}
use Rattle.std.specs.declared.option.Option.{Option}
use Rattle.wl_core.specs.Machine.{IsSetup, SetupValue, StateValue, chunks, end, put}
use Rattle.wl_core.proofs.Functions.{put_same, put_other}
use Rattle.count_table.specs.declared.view.FrameView.{FrameView}
use Rattle.count_table.specs.declared.view.WorkerView.{WorkerView}
use Rattle.count_table.specs.declared.view.View.{View}
use Rattle.count_table.specs.declared.view.View.TheVariants.{Frame, Worker, Spent}
use Rattle.count_table.specs.Views.{drawn_of, is_out, none_count, times, total}
use Rattle.count_table.specs.Rule.{Counted, Fits, Keeps, Ruled}
use Rattle.count_table.specs.Plays.{both_of, joined, left_of, moved_left, moved_right, right_of}
use Rattle.count_table.proofs.Totals.{firsts, times-append, total-zero, total_at}
use Rattle.count_table.proofs.Facts.{frame_no_worker, none_left}
use Rattle.phase_schedules.specs.Interleavings.{Action, Assign, AtTable, DrawBy, Interleaved, JoinSeat, KeepBy, Leads, LookBy, MakeSeat, MoveSeat, ReleaseBy, StopBy, TableAction, TableLeads, TakeBy, WriteBy}
use Rattle.phase_schedules.specs.Laws.{IsInterleaving}
use Rattle.phase_schedules.specs.Leaving.{AllLeaveThrough, IsThrough, LeavesThrough, SeatLeaves, WorkersLeft}
use Rattle.phase_schedules.specs.Moments.{Dynamic, Moment, Table, Work, met_fault, open_moment, wrote}
use Rattle.phase_schedules.specs.Readings.{CellsDone, ChunkDone, Ends}
use Rattle.phase_schedules.proofs.Readings.{ReadsDrawn}
use Rattle.phase_schedules.proofs.Runs.{all_end, first_run, reached_run}
use Rattle.phase_schedules.proofs.Tables.{rule_kept}

module _ (u : SetupValue) where
  -- what was done stays done
  still_done : (k : Work) (d : ℕ) (next : ℕ → ℕ) (stopped : ℕ → Bool) → ((e : ℕ) → k.stopped e ≡ true → stopped e ≡ true) → (k.next d ≡ end u d → next d ≡ end u d) → ChunkDone u k d
      → (next d ≡ end u d) ⊎ ((stopped d ≡ true) ⊎ ((e : ℕ) × (e < d) × (stopped e ≡ true)))
  still_done k d next stopped stays ended done =
      ⊎_elim
      (λ (e : k.next d ≡ end u d). inl (ended e))
      (λ (r : (k.stopped d ≡ true) ⊎ ((e : ℕ) × (e < d) × (k.stopped e ≡ true))).
      ⊎_elim (λ (e : k.stopped d ≡ true). inr (inl (stays d e))) (λ (e : (e : ℕ) × (e < d) × (k.stopped e ≡ true)). inr (inr (e.0, e.1, stays e.0 e.2))) r)
      done

  wrote_done : (k : Work) (n c d : ℕ) (value : Option (List ℤ)) → k.next c < end u c → ChunkDone u k d → ChunkDone u (wrote u k n c value) d
  wrote_done k n c d value below done =
      still_done k d (put k.next c (k.next c + 1)) k.stopped (λ e st. st)
      (λ e. ⊎_elim (λ (same : d ≡ c). absurd (let x = ap k.next same in let y = ap (end u) same in omega arith)) (λ (ne : d ≢ c). put_other k.next c (k.next c + 1) d ne ∙ e) (cases_eq d c))
      done

  fault_done : (k : Work) (c d : ℕ) → ChunkDone u k d → ChunkDone u (met_fault k c) d
  fault_done k c d done =
      still_done k d k.next (put k.stopped c true)
      (λ e st. ⊎_elim (λ (same : e ≡ c). put_same k.stopped c true e same) (λ (ne : e ≢ c). put_other k.stopped c true e ne ∙ st) (cases_eq e c))
      (λ e. e)
      done

module _ {T : Type 0} (u : SetupValue) where
  -- Of each seat that was made and is not out the frame has a draw that found no chunk, and the frame's chunks are done
  abbrev LeftAt : List (View T) → Work → Type 0
  LeftAt [] k = ⊥
  LeftAt (Frame f ∷ vs) k = (f.nones + f.out ≡ f.made) × ((c : ℕ) → 0 < times c (drawn_of (Frame f)) → ChunkDone u k c)
  LeftAt (Worker w ∷ vs) k = ⊥
  LeftAt (Spent ∷ vs) k = ⊥

  cells_left : (vs : List (View T)) (k k' : Work) → ((d : ℕ) → ChunkDone u k d → ChunkDone u k' d) → LeftAt vs k → LeftAt vs k'
  cells_left [] k k' more l = l
  cells_left (Frame f ∷ vs) k k' more l = (l.0, λ c has. more c (l.1 c has))
  cells_left (Worker w ∷ vs) k k' more l = l
  cells_left (Spent ∷ vs) k k' more l = l

  -- ---- the table

  module _ (k : Work) where
    turned_left : (ws : List ℕ) (hs : List (Home (Option T))) (vs : List (View T)) (id : ℕ) (w : WorkerView T) (v : View T) → Keeps ws hs vs → get_elem? vs id ≡ some (Worker w) → LeftAt vs k → LeftAt (set vs id v) k
    turned_left [] hs vs id w v r at l = absurd r
    turned_left (n ∷ cs) hs [] id w v r at l = absurd r
    turned_left (n ∷ cs) hs (Worker x ∷ vs) id w v r at l = absurd r
    turned_left (n ∷ cs) hs (Spent ∷ vs) id w v r at l = absurd r
    turned_left (n ∷ cs) hs (Frame f ∷ vs) zero w v r at l = absurd (frame_no_worker f w at)
    turned_left (n ∷ cs) hs (Frame f ∷ vs) (suc i) w v r at l = l

    pushed_left : (vs : List (View T)) (v : View T) → LeftAt vs k → LeftAt (vs ++ v ∷ []) k
    pushed_left [] v l = absurd l
    pushed_left (Frame f ∷ vs) v l = l
    pushed_left (Worker w ∷ vs) v l = l
    pushed_left (Spent ∷ vs) v l = l

    seat_left : (vs : List (View T)) (f : FrameView T) → get_elem? vs 0 ≡ some (Frame f) → LeftAt vs k → LeftAt (set vs 0 (left_of (Frame f)) ++ right_of (Frame f) ∷ []) k
    seat_left [] f first l = absurd l
    seat_left (Frame g ∷ vs) f first l =
        let e : g ≡ f = cc in
        let l' : (f.nones + f.out ≡ f.made) × ((c : ℕ) → 0 < times c (drawn_of (Frame f)) → ChunkDone u k c) = subst (λ (x : FrameView T). (x.nones + x.out ≡ x.made) × ((c : ℕ) → 0 < times c (drawn_of (Frame x)) → ChunkDone u k c)) e l in
        let sum = l'.0 in
        ((let goal : f.nones + (f.out + 1) ≡ f.made + 1 = omega arith in goal), l'.1)
    seat_left (Worker w ∷ vs) f first l = absurd l
    seat_left (Spent ∷ vs) f first l = absurd l

    -- a worker that is through came back
    joined_left : (f : FrameView T) (w : WorkerView T) → 1 ≤ f.out → (f.nones + f.out ≡ f.made) → ((c : ℕ) → 0 < times c (drawn_of (Frame f)) → ChunkDone u k c) → IsThrough u k w
        → (f.nones + cond w.ended 1 0 + (f.out - 1) ≡ f.made) × ((c : ℕ) → 0 < times c (drawn_of (Frame (joined f w))) → ChunkDone u k c)
    joined_left f w some_out sum done through =
        let one : cond {A = ℕ} w.ended 1 0 ≡ 1 = ap (λ (b : Bool). cond {A = ℕ} b 1 0) through.ended in (
          omega arith,
          λ c has.
              let d = ap (times c) (firsts f.drawn w.drawn w.number) in
              let a = times-append c (drawn_of (Frame f)) w.drawn in
              ⊎_elim (λ (mine : 0 < times c w.drawn). through.done c mine) (λ (none : times c w.drawn ≤ 0). done c (omega arith)) (cases_lt 0 (times c w.drawn)),
        )

    join_left : (ws : List ℕ) (hs : List (Home (Option T))) (vs : List (View T)) (f : FrameView T) (id : ℕ) (w : WorkerView T) → Keeps ws hs vs → get_elem? vs 0 ≡ some (Frame f) → get_elem? vs id ≡ some (Worker w)
        → IsThrough u k w → LeftAt vs k → LeftAt (set (set vs 0 (both_of (Frame f) (Worker w))) id Spent) k
    join_left [] hs vs f id w r first at through l = absurd r
    join_left (n ∷ cs) hs [] f id w r first at through l = absurd r
    join_left (n ∷ cs) hs (Worker x ∷ vs) f id w r first at through l = absurd r
    join_left (n ∷ cs) hs (Spent ∷ vs) f id w r first at through l = absurd r
    join_left (n ∷ cs) hs (Frame g ∷ vs) f zero w r first at through l = absurd (frame_no_worker g w at)
    join_left (n ∷ cs) hs (Frame g ∷ vs) f (suc i) w r first at through l =
        let e : g ≡ f = cc in
        let out : 1 ≤ g.out = (let t = total_at is_out vs i (Worker w) at in let o = r.out_is in omega arith) in
        subst (λ (x : FrameView T). (x.nones + cond w.ended 1 0 + (x.out - 1) ≡ x.made) × ((c : ℕ) → 0 < times c (drawn_of (Frame (joined x w))) → ChunkDone u k c)) e (joined_left g w out l.0 l.1 through)

    table_left : (workers : ℕ) (m : Moment T) (t : Table T) (x : TableAction) → m.work ≡ k → Ruled m.table → TableLeads workers m.table x t → SeatLeaves u m x → LeftAt m.table.views k → LeftAt t.views k
    table_left workers m t (DrawBy id) e ruled r leaves l = subst (λ (y : Table T). LeftAt y.views k) (sym r.3.6) (turned_left m.table.words m.table.homes m.table.views id r.0 r.3.1 ruled r.1 l)
    table_left workers m t (KeepBy id b) e ruled r leaves l = subst (λ (y : Table T). LeftAt y.views k) (sym r.4.6) (turned_left m.table.words m.table.homes m.table.views id r.0 r.4.1 ruled r.1 l)
    table_left workers m t (ReleaseBy id b) e ruled r leaves l = subst (λ (y : Table T). LeftAt y.views k) (sym r.3.6) (turned_left m.table.words m.table.homes m.table.views id r.0 r.3.1 ruled r.1 l)
    table_left workers m t (LookBy id b) e ruled r leaves l = subst (λ (y : Table T). LeftAt y.views k) (sym r.3.6) (turned_left m.table.words m.table.homes m.table.views id r.0 r.3.1 ruled r.1 l)
    table_left workers m t (TakeBy id) e ruled r leaves l = subst (λ (y : Table T). LeftAt y.views k) (sym r.2) l
    table_left workers m t MakeSeat e ruled r leaves l = subst (λ (y : Table T). LeftAt y.views k) (sym r.3) (seat_left m.table.views r.0 r.1 l)
    table_left workers m t (MoveSeat id) e ruled r leaves l =
        subst (λ (y : Table T). LeftAt y.views k) (sym r.2) (pushed_left (set m.table.views id (moved_left (Worker r.0))) (moved_right (Worker r.0)) (turned_left m.table.words m.table.homes m.table.views id r.0 (moved_left (Worker r.0)) ruled r.1 l))
    table_left workers m t (JoinSeat id) e ruled r leaves l =
        subst (λ (y : Table T). LeftAt y.views k) (sym r.5) (join_left m.table.words m.table.homes m.table.views r.0 id r.1 ruled r.2 r.3 (subst (λ (y : Work). IsThrough u y r.1) e (leaves r.1 r.3)) l)

    -- ---- where no worker is out

    gone : (f : FrameView T) (c : ℕ) (v : View T) → Fits f v → is_out v ≡ 0 → times c (drawn_of v) ≡ 0
    gone f c (Frame g) fits z = absurd fits
    gone f c (Worker w) fits z = absurd (omega arith)
    gone f c Spent fits z = refl

    all_done : (n : ℕ) (cs : List ℕ) (hs : List (Home (Option T))) (f : FrameView T) (vs : List (View T)) → Counted n cs hs f vs → length f.parts ≡ chunks u → f.out ≡ 0 → 1 ≤ f.made → LeftAt (Frame f ∷ vs) k → CellsDone u k
    all_done n cs hs f vs h parts_are out some_seat l c lt =
        let sum = l.0 in
        let none : 0 < none_count (Frame f ∷ vs) = omega arith in
        let past = none_left n cs hs f vs h none in
        let once = h.each_once c in
        let there : cond {A = ℕ} (ltb c (min n (length f.parts))) 1 0 ≡ 1 = (let e : ltb c (min n (length f.parts)) ≡ true = lt-ltb c (min n (length f.parts)) (omega arith) in rw e refl) in
        let others : total (λ v. times c (drawn_of v)) vs ≡ 0 = total-zero (λ v. times c (drawn_of v)) vs
        (λ i v at. gone f c v (h.fit i v at) (let t = total_at is_out vs i v at in let o = h.out_is in omega arith)) in
        l.1 c (omega arith)

    cells_done : (ws : List ℕ) (hs : List (Home (Option T))) (vs : List (View T)) (f : FrameView T) (s : StateValue) → Keeps ws hs vs → ReadsDrawn u ws vs s → get_elem? vs 0 ≡ some (Frame f) → f.out ≡ 0 → 1 ≤ f.made → LeftAt vs k → CellsDone u k
    cells_done [] hs vs f s r reads first out some_seat l = absurd r
    cells_done (n ∷ cs) hs [] f s r reads first out some_seat l = absurd r
    cells_done (n ∷ cs) hs (Worker x ∷ vs) f s r reads first out some_seat l = absurd r
    cells_done (n ∷ cs) hs (Spent ∷ vs) f s r reads first out some_seat l = absurd r
    cells_done (n ∷ cs) hs (Frame g ∷ vs) f s r reads first out some_seat l =
        let e : g ≡ f = cc in
        all_done n cs hs g vs r reads.chunks_are (ap (λ (x : FrameView T). x.out) e ∙ out) (subst (λ (x : FrameView T). 1 ≤ x.made) (sym e) some_seat) l

  step_left : (m n : Moment T) (x : Action) → Ruled m.table → Leads Dynamic u m x n → LeavesThrough u m x → LeftAt m.table.views m.work → LeftAt n.table.views n.work
  step_left m n (AtTable x) ruled r leaves l = subst (λ (y : Moment T). LeftAt y.table.views y.work) (sym r.2) (table_left m.work u.workers m r.0 x refl ruled r.1 leaves l)
  step_left m n (Assign w) ruled r leaves l = absurd r
  step_left m n (WriteBy id c) ruled r leaves l =
      subst (λ (y : Moment T). LeftAt y.table.views y.work) (sym r.7) (cells_left m.table.views m.work (wrote u m.work r.0.number c r.1) (λ d done. wrote_done u m.work r.0.number c d r.1 r.4 done) l)
  step_left m n (StopBy id c) ruled r leaves l =
      subst (λ (y : Moment T). LeftAt y.table.views y.work) (sym r.7) (cells_left m.table.views m.work (met_fault m.work c) (λ d done. fault_done u m.work c d done) l)

  rule_after : (m n : Moment T) (x : Action) → IsSetup u → Ruled m.table → Leads Dynamic u m x n → Ruled n.table
  rule_after m n (AtTable x) is ruled r = subst (λ (y : Moment T). Ruled y.table) (sym r.2) (rule_kept u.workers m.table r.0 x is.workers ruled r.1)
  rule_after m n (Assign w) is ruled r = absurd r
  rule_after m n (WriteBy id c) is ruled r = subst (λ (y : Moment T). Ruled y.table) (sym r.7) ruled
  rule_after m n (StopBy id c) is ruled r = subst (λ (y : Moment T). Ruled y.table) (sym r.7) ruled

  steps_left : (m n : Moment T) (xs : List Action) (is : IsSetup u) (r : Interleaved Dynamic u m xs n) → Ruled m.table → AllLeaveThrough Dynamic u m xs n r → LeftAt m.table.views m.work → LeftAt n.table.views n.work
  steps_left m n [] is r ruled leave l = subst (λ (y : Moment T). LeftAt y.table.views y.work) r l
  steps_left m n (x ∷ xs) is r ruled leave l =
      steps_left r.0 n xs is r.2 (rule_after m r.0 x is ruled r.1) leave.1 (step_left m r.0 x ruled r.1 leave.0 l)

module _ {T : Type 0} (u : SetupValue) (parts : List T) (xs : List Action) (m : Moment T) (i : IsInterleaving Dynamic u parts xs m) where
  pub leavers_agree : AllLeaveThrough Dynamic u (open_moment u parts) xs m i.steps → WorkersLeft m → Ends Dynamic u m
  leavers_agree leave left =
      let run = reached_run Dynamic u parts xs m i in
      let first = first_run u i.setup parts Dynamic i.parts_are i.few in
      let l = steps_left u (open_moment u parts) m xs i.setup i.steps first.0 leave (refl, λ c has. absurd (omega arith)) in
      all_end Dynamic u parts xs m i (left.0, left.1, left.2) (cells_done u m.work m.table.words m.table.homes m.table.views left.0 run.1.0 run.0 run.1.1.reads left.1 left.2 left.3 l)
