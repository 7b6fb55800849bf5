-- Every interleaving is a run of the machine.
use Rattle.std.proofs.Common.{◌≡◌, ℕ, ◌+◌, ◌-◌, ◌%◌, ◌^◌, ◌<◌, ◌≤◌, ◌⊎◌, List, [], ◌∷◌, ◌++◌, map, length, set, get_or, refl, sym, ap, subst, ◌∙◌, inl, inr, ⊎_elim, arith}
use Rattle.std.specs.Prelude.{All}
use Rattle.std.proofs.lemmas.Bool.{cases_lt}
use Rattle.std.proofs.lemmas.List.Elements.{All-from_get_or}
use Rattle.std.specs.declared.option.Option.{Option}
use Rattle.std.specs.declared.option.Option.TheVariants.{Some}
use Rattle.atomic_table.specs.Table.{Step}
use Rattle.wl_core.specs.declared.events.Event.{Event}
use Rattle.wl_core.specs.declared.events.Event.TheVariants.{Draw, Keep, Release, Stop, Write}
use Rattle.wl_core.specs.Machine.{Runs, Finished, IsSetup, Reached, SetupValue, StateValue, Steps, chunks, opened as opened_state}
use Rattle.wl_core.proofs.Kept.{reached_facts, reached_more}
use Rattle.wl_core.proofs.Verdicts.{settled}
use Rattle.count_table.specs.declared.view.WorkerView.{WorkerView}
use Rattle.count_table.specs.declared.view.View.{View}
use Rattle.count_table.specs.declared.view.View.TheVariants.{Worker}
use Rattle.count_table.specs.Views.{times}
use Rattle.count_table.specs.Rule.{Ruled}
use Rattle.count_table.specs.Plays.{Draws, Keeping, Looking, Releasing, Seat, after_draw, after_keep, after_release}
use Rattle.count_table.proofs.Ending.{opens}
use Rattle.count_table.proofs.HoldsReading.{holds_at_opening}
use Rattle.count_table.proofs.Reading.{opens_at_opening}
use Rattle.phase_schedules.specs.Along.{AreEventsOf, AreTableEvents, GetsNext, OnceOrBefore, RunsAlong}
use Rattle.phase_schedules.specs.Interleavings.{Action, Assign, AtTable, DrawBy, Interleaved, IsSeat, JoinSeat, KeepBy, Leads, LookBy, MakeSeat, MoveSeat, ReleaseBy, StopBy, TableAction, TableLeads, TakeBy, Turns, WriteBy}
use Rattle.phase_schedules.specs.Laws.{HasParts, IsInterleaving}
use Rattle.phase_schedules.specs.Moments.{Dynamic, Moment, Scheduling, Static, Table, Work, open_moment}
use Rattle.phase_schedules.specs.Readings.{AllLeft, CellsDone, Ends, IsRunTo, Reads, Stands}
use Rattle.phase_schedules.proofs.Ahead.{SameTable, idles, runs_both, runs_one}
use Rattle.phase_schedules.proofs.Cells.{Made, made_drawn, made_idle, made_none, made_same, stops, writes}
use Rattle.phase_schedules.proofs.Endings.{cells_settled, chunks_done, same_cells}
use Rattle.phase_schedules.proofs.Holds.{counts_back, draw_held, holds_nothing, twice}
use Rattle.phase_schedules.proofs.Readings.{draw_reads, none_reads}
use Rattle.phase_schedules.proofs.Tables.{rule_kept}
use Rattle.phase_schedules.proofs.Turning.{assign_reads, held_of, join_reads, keep_reads, look_reads, move_reads, number, own_chunk, reads_same, release_reads, seat_reads}

in_range : (u : SetupValue) → IsSetup u → All (λ (n : ℕ). (1 ≤ n) × (n ≤ 2 ^ 62)) u.counts
in_range u is = All-from_get_or (λ (n : ℕ). (1 ≤ n) × (n ≤ 2 ^ 62)) u.counts 0 (λ b lt. is.counts b lt)

word_is : (b : ℕ) → b + 1 - 1 ≡ b
word_is b = omega arith

module _ {T : Type 0} (u : SetupValue) (is : IsSetup u) where
  -- the table, the chunks that were assigned and the cells stand for a state that was reached
  pub record Run (kind : Scheduling) (table : Table T) (assigned : List ℕ) (work : Work) (s : StateValue) : Type 0 where
    pub reached : Reached u s
    pub reads : Reads kind u table.words table.views assigned s
    pub made : Made u work s

  abbrev pub HasRun : Scheduling → Table T → List ℕ → Work → Type 0
  HasRun kind table assigned work = (s : StateValue) × Run kind table assigned work s

  -- after a worker's step on a word, by the view that it leaves
  module _ (told : Step (Option T) → Seat T → ℕ → Seat T → Type 0) (word operand : ℕ) (turn : ℕ → ℕ) (id : ℕ) (w : WorkerView T) (s t : Table T) (r : Turns told word operand turn id w s t) where
    left_as : (P : List ℕ → List (View T) → Type 0) (v : View T) → r.1 ≡ v → P (set s.words word (turn (get_or s.words word 0))) (set s.views id v) → P t.words t.views
    left_as P v e p = subst (λ (x : Table T). P x.words x.views) (sym r.6) (subst (λ (y : View T). P (set s.words word (turn (get_or s.words word 0))) (set s.views id y)) (sym e) p)

  -- events of this kind lead from a state to one that these stand for
  abbrev pub GoesTo : StateValue → (List Event → Type 0) → Scheduling → Table T → List ℕ → Work → Type 0
  GoesTo s P kind t l k = (es : List Event) × (x : StateValue) × P es × Runs u s es x × Run kind t l k x

  module _ (kind : Scheduling) (table : Table T) (l : List ℕ) (work : Work) (s : StateValue) (run : Run kind table l work s) where
    -- an event that changes what the machine says of buffers alone
    kept : (t : Table T) (w b : ℕ) → (x : StateValue) × Steps u s (Keep w b) x × Reads kind u t.words t.views l x → GoesTo s (λ es. es ≡ Keep w b ∷ []) kind t l work
    kept t w b e =
        let is_then = e.1.3 in (
          Keep w b ∷ [],
          e.0,
          refl,
          runs_one u s e.0 (Keep w b) e.1,
          record { reached = reached_more u s e.0 (Keep w b) run.reached e.1; reads = e.2; made = made_same u work s is run.made e.0 (ap (λ (x : StateValue). x.taken) is_then) (ap (λ (x : StateValue). x.owner) is_then) (ap (λ (x : StateValue). x.next) is_then) (ap (λ (x : StateValue). x.stopped) is_then) },
        )

    released : (t : Table T) (w b : ℕ) → (x : StateValue) × Steps u s (Release w b) x × Reads kind u t.words t.views l x → GoesTo s (λ es. es ≡ Release w b ∷ []) kind t l work
    released t w b e =
        let is_then = e.1.3 in (
          Release w b ∷ [],
          e.0,
          refl,
          runs_one u s e.0 (Release w b) e.1,
          record { reached = reached_more u s e.0 (Release w b) run.reached e.1; reads = e.2; made = made_same u work s is run.made e.0 (ap (λ (x : StateValue). x.taken) is_then) (ap (λ (x : StateValue). x.owner) is_then) (ap (λ (x : StateValue). x.next) is_then) (ap (λ (x : StateValue). x.stopped) is_then) },
        )

    no_event : (t : Table T) → Reads kind u t.words t.views l s → GoesTo s (λ es. es ≡ []) kind t l work
    no_event t reads = ([], s, refl, refl, record { reached = run.reached; reads = reads; made = run.made })

    -- a table with these words and views
    same_as : (t t' : Table T) → t ≡ t' → Reads kind u t'.words t'.views l s → GoesTo s (λ es. es ≡ []) kind t l work
    same_as t t' e reads = no_event t (subst (λ (x : Table T). Reads kind u x.words x.views l s) (sym e) reads)

    -- what the machine does where a worker writes or meets a fault
    cells_run : (e : Event) (k : Work) → (es : List Event) × (x : StateValue) × OnceOrBefore e es × Runs u s es x × Reached u x × SameTable s x × Made u k x → GoesTo s (OnceOrBefore e) kind table l k
    cells_run e k f = (f.0, f.1, f.2, f.3, record { reached = f.4; reads = reads_same u s kind f.1 table.words table.views l run.reads f.5; made = f.6 })

    -- The worker gets the next chunk. First the machine does the chunk that it has to its end
    module _ (w : ℕ) (few : w < u.workers) where
      idle_run : Run kind table l work (idles u w few s is run.reached).0
      idle_run = let i = idles u w few s is run.reached in
          record { reached = i.1.reached; reads = reads_same u s kind i.0 table.words table.views l run.reads i.1.same; made = made_idle u work s is run.made w few i.0 i.1 }

      gets_next : (t : Table T) (l' : List ℕ) → (x : StateValue) × Steps u (idles u w few s is run.reached).0 (Draw w) x × Reads kind u t.words t.views l' x → GoesTo s (GetsNext w) kind t l' work
      gets_next t l' e =
          let i = idles u w few s is run.reached in
          let here = idle_run in (
            i.1.events ++ Draw w ∷ [],
            e.0,
            (i.1.events, i.1.own, refl),
            runs_both u s i.0 e.0 i.1.events (Draw w ∷ []) i.1.runs (runs_one u i.0 e.0 (Draw w) e.1),
            record { reached = reached_more u i.0 e.0 (Draw w) i.1.reached e.1; reads = e.2; made = made_drawn u work i.0 is here.made w e.0 e.1 },
          )

  -- the same run, of which less is told
  tells : (s : StateValue) (P Q : List Event → Type 0) (kind : Scheduling) (t : Table T) (l : List ℕ) (k : Work) → ((es : List Event) → P es → Q es) → GoesTo s P kind t l k → GoesTo s Q kind t l k
  tells s P Q kind t l k more g = (g.0, g.1, more g.0 g.2, g.3, g.4)

  module _ (l : List ℕ) (work : Work) (a t : Table T) (ruled : Ruled a) (s : StateValue) where
    draw_runs : Run Dynamic a l work s → (id : ℕ) (w : WorkerView T) → IsSeat a id w → Turns Draws 0 1 (λ x. (x + 1) % 2 ^ 64) id w a t → GoesTo s (λ es. GetsNext w.number es ⊎ (es ≡ [])) Dynamic t l work
    draw_runs run id w at r =
        let next = get_or a.words 0 0 in
        let is_after : r.1 ≡ Worker (after_draw w next) = ap (λ (p : Seat T). p.0) r.5.0 in
        let few = number u s a.words a.homes a.views l id w ruled at Dynamic run.reads in
        ⊎_elim
        (λ (more : next < chunks u).
        let i = idles u w.number few s is run.reached in
        let run' = idle_run Dynamic a l work s run w.number few in
        tells s (GetsNext w.number) (λ es. GetsNext w.number es ⊎ (es ≡ [])) Dynamic t l work (λ es p. inl p)
        (gets_next Dynamic a l work s run w.number few t l
        (left_as Draws 0 1 (λ x. (x + 1) % 2 ^ 64) id w a t r (λ ws vs. (x : StateValue) × Steps u i.0 (Draw w.number) x × Reads Dynamic u ws vs l x) (Worker (after_draw w next)) is_after
        (draw_reads u i.0 a.words a.homes a.views id w ruled run'.reads at more i.1.idle))))
        (λ (none : chunks u ≤ next).
        tells s (λ es. es ≡ []) (λ es. GetsNext w.number es ⊎ (es ≡ [])) Dynamic t l work (λ es p. inr p)
        (no_event Dynamic a l work s run t
        (left_as Draws 0 1 (λ x. (x + 1) % 2 ^ 64) id w a t r (λ ws vs. Reads Dynamic u ws vs l s) (Worker (after_draw w next)) is_after (none_reads u s a.words a.homes a.views id w ruled run.reads at none))))
        (cases_lt next (chunks u))

    idle_draw_runs : Run Static a l work s → (id : ℕ) (w : WorkerView T) → IsSeat a id w → Turns Draws 0 1 (λ x. (x + 1) % 2 ^ 64) id w a t → GoesTo s (λ es. es ≡ []) Static t l work
    idle_draw_runs run id w at r =
        let next = get_or a.words 0 0 in
        no_event Static a l work s run t
        (left_as Draws 0 1 (λ x. (x + 1) % 2 ^ 64) id w a t r (λ ws vs. Reads Static u ws vs l s) (Worker (after_draw w next)) (ap (λ (p : Seat T). p.0) r.5.0)
        (draw_held u s ((next + 1) % 2 ^ 64) a.words a.homes a.views id w ruled run.reads.0 at, run.reads.1))

    module _ (kind : Scheduling) (run : Run kind a l work s) (id : ℕ) (w : WorkerView T) (at : IsSeat a id w) where
      keep_runs : (b : ℕ) → b < w.buffers → length w.holds < 2 ^ 56 → Turns Keeping (b + 1) 1 (λ x. (x + 1) % 2 ^ 64) id w a t → GoesTo s (λ es. es ≡ Keep w.number b ∷ []) kind t l work
      keep_runs b lt room r =
          kept kind a l work s run t w.number b
          (left_as Keeping (b + 1) 1 (λ x. (x + 1) % 2 ^ 64) id w a t r (λ ws vs. (x : StateValue) × Steps u s (Keep w.number b) x × Reads kind u ws vs l x) (Worker (after_keep w b))
          (ap (λ (p : Seat T). p.0) r.5 ∙ ap (λ (c : ℕ). Worker (after_keep w c)) (word_is b))
          (keep_reads u s a.words a.homes a.views l id w ruled at kind b run.reads lt room))

      release_runs : (b : ℕ) → 0 < times b w.holds → Turns Releasing (b + 1) 1 (λ x. (x + (2 ^ 64 - 1)) % 2 ^ 64) id w a t → GoesTo s (λ es. es ≡ Release w.number b ∷ []) kind t l work
      release_runs b has r =
          released kind a l work s run t w.number b
          (left_as Releasing (b + 1) 1 (λ x. (x + (2 ^ 64 - 1)) % 2 ^ 64) id w a t r (λ ws vs. (x : StateValue) × Steps u s (Release w.number b) x × Reads kind u ws vs l x) (Worker (after_release w b))
          (ap (λ (p : Seat T). p.0) r.5.0 ∙ ap (λ (c : ℕ). Worker (after_release w c)) (word_is b))
          (release_reads u s a.words a.homes a.views l id w ruled at kind b run.reads has))

      look_runs : (b : ℕ) → Turns Looking (b + 1) 0 (λ x. x) id w a t → GoesTo s (λ es. es ≡ []) kind t l work
      look_runs b r =
          no_event kind a l work s run t
          (left_as Looking (b + 1) 0 (λ x. x) id w a t r (λ ws vs. Reads kind u ws vs l s) (Worker w) (ap (λ (p : Seat T). p.0) r.5.0) (look_reads u s a.words a.homes a.views l id w ruled at kind b run.reads))

  -- ---- all actions

  table_runs : (kind : Scheduling) (l : List ℕ) (work : Work) (a t : Table T) (x : TableAction) (s : StateValue) → Ruled a → TableLeads u.workers a x t → Run kind a l work s → GoesTo s (AreTableEvents kind a x) kind t l work
  table_runs Dynamic l work a t (DrawBy id) s ruled r run =
      tells s (λ es. GetsNext r.0.number es ⊎ (es ≡ [])) (AreTableEvents Dynamic a (DrawBy id)) Dynamic t l work (λ es p. (r.0, r.1, p)) (draw_runs l work a t ruled s run id r.0 r.1 r.3)
  table_runs Static l work a t (DrawBy id) s ruled r run = idle_draw_runs l work a t ruled s run id r.0 r.1 r.3
  table_runs kind l work a t (KeepBy id b) s ruled r run =
      tells s (λ es. es ≡ Keep r.0.number b ∷ []) (AreTableEvents kind a (KeepBy id b)) kind t l work (λ es p. (r.0, r.1, p)) (keep_runs l work a t ruled s kind run id r.0 r.1 b r.2 r.3 r.4)
  table_runs kind l work a t (ReleaseBy id b) s ruled r run =
      tells s (λ es. es ≡ Release r.0.number b ∷ []) (AreTableEvents kind a (ReleaseBy id b)) kind t l work (λ es p. (r.0, r.1, p)) (release_runs l work a t ruled s kind run id r.0 r.1 b r.2 r.3)
  table_runs kind l work a t (LookBy id b) s ruled r run = look_runs l work a t ruled s kind run id r.0 r.1 b r.3
  table_runs kind l work a t (TakeBy id) s ruled r run = same_as kind a l work s run t a r.2 run.reads
  table_runs kind l work a t MakeSeat s ruled r run = same_as kind a l work s run t _ r.3 (seat_reads u s kind a.words a.homes a.views l r.0 ruled run.reads r.1 r.2)
  table_runs kind l work a t (MoveSeat id) s ruled r run = same_as kind a l work s run t _ r.2 (move_reads u s a.words a.homes a.views l id r.0 ruled r.1 kind run.reads)
  table_runs kind l work a t (JoinSeat id) s ruled r run = same_as kind a l work s run t _ r.5 (join_reads u s a.words a.homes a.views l id r.1 ruled r.3 r.0 r.2 kind run.reads r.4)

  abbrev pub MomentRun : Scheduling → Moment T → Type 0
  MomentRun kind m = Ruled m.table × HasRun kind m.table m.assigned m.work

  -- what an action leads to, from the state that the moment before it stands for
  abbrev StepRun : Scheduling → Moment T → Action → StateValue → Moment T → Type 0
  StepRun kind m x s n = Ruled n.table × GoesTo s (AreEventsOf kind m x) kind n.table n.assigned n.work

  assign_runs : (m : Moment T) (w : ℕ) (s : StateValue) → w < u.workers → length m.assigned < chunks u → Ruled m.table → Run Static m.table m.assigned m.work s → GoesTo s (GetsNext w) Static m.table (m.assigned ++ w ∷ []) m.work
  assign_runs m w s few more ruled r =
      let i = idles u w few s is r.reached in
      let run' = idle_run Static m.table m.assigned m.work s r w few in
      let taken = run'.reads.1.taken in
      let st : Steps u i.0 (Draw w) _ = (few, i.1.idle, (let l = more in omega arith), refl) in
      gets_next Static m.table m.assigned m.work s r w few m.table (m.assigned ++ w ∷ [])
      (_, st, assign_reads u i.0 w _ m.table.words m.table.homes m.table.views m.assigned ruled run'.reads st)

  step_runs : (kind : Scheduling) (m n : Moment T) (x : Action) (s : StateValue) → Leads kind u m x n → Ruled m.table → Run kind m.table m.assigned m.work s → StepRun kind m x s n
  step_runs kind m n (AtTable x) s r ruled run =
      subst (λ (k : Moment T). StepRun kind m (AtTable x) s k) (sym r.2) (rule_kept u.workers m.table r.0 x is.workers ruled r.1, table_runs kind m.assigned m.work m.table r.0 x s ruled r.1 run)
  step_runs Dynamic m n (Assign w) s r ruled run = absurd r
  step_runs Static m n (Assign w) s r ruled run = subst (λ (k : Moment T). StepRun Static m (Assign w) s k) (sym r.2) (ruled, assign_runs m w s r.0 r.1 ruled run)
  step_runs kind m n (WriteBy id c) s r ruled run =
      let few = number u s m.table.words m.table.homes m.table.views m.assigned id r.0 ruled r.2 kind run.reads in
      let mine = own_chunk u s kind m id r.0 c ruled run.reads r.2 r.3 in
      subst (λ (k : Moment T). StepRun kind m (WriteBy id c) s k) (sym r.7) (
        ruled,
        tells s (OnceOrBefore (Write r.0.number)) (AreEventsOf kind m (WriteBy id c)) kind m.table m.assigned _ (λ es p. (r.0, r.2, p))
            (cells_run kind m.table m.assigned m.work s run (Write r.0.number) _ (writes u m.work s is run.made run.reached r.0.number c few mine.0 mine.1 r.4 r.1 r.5 r.6)),
      )
  step_runs kind m n (StopBy id c) s r ruled run =
      let few = number u s m.table.words m.table.homes m.table.views m.assigned id r.0 ruled r.2 kind run.reads in
      let mine = own_chunk u s kind m id r.0 c ruled run.reads r.2 r.3 in
      subst (λ (k : Moment T). StepRun kind m (StopBy id c) s k) (sym r.7) (
        ruled,
        tells s (OnceOrBefore (Stop r.0.number)) (AreEventsOf kind m (StopBy id c)) kind m.table m.assigned _ (λ es p. (r.0, r.2, p))
            (cells_run kind m.table m.assigned m.work s run (Stop r.0.number) _ (stops u m.work s is run.made run.reached r.0.number c few mine.0 mine.1 r.4 r.1 r.5 r.6)),
      )

  run_to : (kind : Scheduling) (m : Moment T) (s : StateValue) → Run kind m.table m.assigned m.work s → IsRunTo kind u m s
  run_to kind m s run = record { reached = run.reached; table = run.reads; cells = run.made.as_far; exact = same_cells u m.work s is run.reached run.made }

  -- actions one after another
  runs : (kind : Scheduling) (m n : Moment T) (xs : List Action) (s : StateValue) → Ruled m.table → Run kind m.table m.assigned m.work s → Interleaved kind u m xs n → MomentRun kind n
  runs kind m n [] s ruled run r = subst (λ (k : Moment T). MomentRun kind k) r (ruled, (s, run))
  runs kind m n (x ∷ xs) s ruled run r = let g = step_runs kind m r.0 x s r.1 ruled run in runs kind r.0 n xs g.1.1 g.0 g.1.4 r.2

  along : (kind : Scheduling) (m n : Moment T) (xs : List Action) (s : StateValue) → Ruled m.table → Run kind m.table m.assigned m.work s → (r : Interleaved kind u m xs n) → RunsAlong kind u m xs n r s
  along kind m n [] s ruled run r = run_to kind m s run
  along kind m n (x ∷ xs) s ruled run r =
      let g = step_runs kind m r.0 x s r.1 ruled run in
      (run_to kind m s run, (g.1.0, g.1.1, g.1.2, g.1.3, along kind r.0 n xs g.1.1 g.0 g.1.4 r.2))

  module _ (parts : List T) where
    first_reads : (kind : Scheduling) → HasParts kind u (length parts) → Reads kind u (0 ∷ u.counts) (open_moment u parts).table.views [] (opened_state u)
    first_reads Dynamic parts_are = opens_at_opening u parts parts_are
    first_reads Static parts_are = (holds_at_opening u parts, record { taken = refl; owners = λ c n e. absurd (cc) })

    pub opening_run : (kind : Scheduling) → HasParts kind u (length parts) → Run kind (open_moment u parts).table [] (open_moment u parts).work (opened_state u)
    opening_run kind parts_are = record { reached = ([], refl); reads = first_reads kind parts_are; made = made_none u }

    pub first_run : (kind : Scheduling) → HasParts kind u (length parts) → length parts ≤ 4096 → MomentRun kind (open_moment u parts)
    first_run kind parts_are few = (
      opens (0 ∷ u.counts) (0 ∷ u.counts) u.counts (map Some parts) parts parts refl refl refl refl (in_range u is) few,
      (opened_state u, opening_run kind parts_are),
    )

  stands : (kind : Scheduling) (m : Moment T) → MomentRun kind m → Stands kind u m
  stands kind m r = record {
    ruled = r.0;
    run = (r.1.0, run_to kind m r.1.0 r.1.1);
    held_twice = λ id w b at has. twice m.table.words m.table.homes m.table.views id w b r.0 at has;
  }

  ends : (kind : Scheduling) (m : Moment T) → MomentRun kind m → AllLeft m → CellsDone u m.work → Ends kind u m
  ends kind m r left done =
      let s = r.1.0 in
      let run = r.1.1 in
      let held = held_of u s kind m.table.words m.table.views m.assigned run.reads in
      let finished : Finished u s = (holds_nothing u s m.table.words m.table.homes m.table.views left.0 r.0 held left.1 left.2, chunks_done u m.work s is run.reached run.made done) in
      record {
        cells = cells_settled u m.work s is run.reached run.made done finished;
        state = (s, run_to kind m s run, finished, settled u s is (reached_facts u s is run.reached) finished);
        counts = counts_back u s m.table.words m.table.homes m.table.views left.0 r.0 held left.1 left.2;
      }

module _ {T : Type 0} (kind : Scheduling) (u : SetupValue) (parts : List T) (xs : List Action) (m : Moment T) (i : IsInterleaving kind u parts xs m) where
  pub reached_run : MomentRun u i.setup kind m
  reached_run =
      let first = first_run u i.setup parts kind i.parts_are i.few in
      runs u i.setup kind (open_moment u parts) m xs first.1.0 first.0 first.1.1 i.steps

  pub all_stand : Stands kind u m
  all_stand = stands u i.setup kind m reached_run

  pub runs_along : RunsAlong kind u (open_moment u parts) xs m i.steps (opened_state u)
  runs_along =
      let first = first_run u i.setup parts kind i.parts_are i.few in
      along u i.setup kind (open_moment u parts) m xs (opened_state u) first.0 (opening_run u i.setup parts kind i.parts_are) i.steps

  pub all_end : AllLeft m → CellsDone u m.work → Ends kind u m
  all_end left done = ends u i.setup kind m reached_run left done
