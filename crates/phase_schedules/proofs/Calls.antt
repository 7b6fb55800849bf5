-- Each call that its contract allows is a step.
use Rattle.std.proofs.Common.{◌≡◌, ℕ, zero, suc, ◌+◌, ◌-◌, ◌%◌, ◌^◌, ◌<◌, ◌⊎◌, min, Bool, true, false, cond, ltb, List, [], ◌∷◌, ◌++◌, length, set, get_or, Some, Ok, Err, refl, sym, ap, ◌∙◌, inl, inr, ⊎_elim, arith}
use Rattle.std.specs.Prelude.{slice_get}
use Rattle.std.proofs.lemmas.Bool.{le-ltb, ltb-true}
use Rattle.std.proofs.lemmas.Option.{slice_get_cases}
use mathlib.Core.Option.{some, Option as Home, some-ne-none}
use lib.ListN.{get_elem?}
use Rattle.std.specs.declared.option.Option.{Option}
use Rattle.atomic_table.specs.Table.{keeps, stepped, takes}
use Rattle.wl_core.specs.Machine.{CellValue, SetupValue, end}
use Rattle.count_table.specs.declared.view.FrameView.{FrameView}
use Rattle.count_table.specs.declared.view.WorkerView.{WorkerView}
use Rattle.count_table.specs.declared.view.View.{View}
use Rattle.count_table.specs.declared.view.View.TheVariants.{Frame, Worker, Spent}
use Rattle.count_table.specs.Views.{drawn_times, times}
use Rattle.count_table.specs.Rule.{Keeps, Ruled}
use Rattle.count_table.specs.Plays.{after_draw, after_keep, after_release, both_of, left_of, moved_left, right_of}
use Rattle.count_table.proofs.Facts.{below_next, frame_no_worker}
use Rattle.phase_schedules.specs.Calls.{CallsAreSteps, MayAct}
use Rattle.phase_schedules.specs.Interleavings.{AtTable, DrawBy, Has, IsFrame, IsSeat, JoinSeat, KeepBy, Leads, LookBy, MakeSeat, MoveSeat, ReleaseBy, StopBy, TableAction, TableLeads, TakeBy, WriteBy, merged, parted}
use Rattle.phase_schedules.specs.Moments.{Moment, Scheduling, Table}
use Rattle.phase_schedules.proofs.Holds.{twice}

module _ {T : Type 0} where
  -- ---- draws

  -- the part of a chunk that is left is at home
  part_home : (ws : List ℕ) (hs : List (Home (Option T))) (vs : List (View T)) (id : ℕ) (w : WorkerView T) → Keeps ws hs vs → get_elem? vs id ≡ some (Worker w) → ltb (get_or ws 0 0) (length w.parts) ≡ true
      → get_elem? hs (get_or ws 0 0) ≡ some (some (slice_get w.parts (get_or ws 0 0)))
  part_home [] hs vs id w k at more = absurd k
  part_home (n ∷ cs) hs [] id w k at more = absurd k
  part_home (n ∷ cs) hs (Worker v ∷ vs) id w k at more = absurd k
  part_home (n ∷ cs) hs (Spent ∷ vs) id w k at more = absurd k
  part_home (n ∷ cs) hs (Frame f ∷ vs) zero w k at more = absurd (frame_no_worker f w at)
  part_home (n ∷ cs) hs (Frame f ∷ vs) (suc i) w k at more =
      let same = (k.fit i (Worker w) at).same_parts in
      let lt : n < length f.parts = (let l = ltb-true n (length w.parts) more in let x = ap (λ (p : List T). length p) same in omega arith) in
      let none_has : drawn_times n (Frame f ∷ vs) ≡ 0 = k.each_once n ∙ (let e : ltb n (min n (length f.parts)) ≡ false = le-ltb n (min n (length f.parts)) (omega arith) in rw e refl) in
      k.parts_home n lt none_has ∙ ap (λ (p : List T). some (some (slice_get p n))) (sym same)

  drawn_below : (ws : List ℕ) (hs : List (Home (Option T))) (vs : List (View T)) (id : ℕ) (w : WorkerView T) → Keeps ws hs vs → get_elem? vs id ≡ some (Worker w) → (c : ℕ) → 0 < times c w.drawn → c < get_or ws 0 0
  drawn_below [] hs vs id w k at = absurd k
  drawn_below (n ∷ cs) hs [] id w k at = absurd k
  drawn_below (n ∷ cs) hs (Worker v ∷ vs) id w k at = absurd k
  drawn_below (n ∷ cs) hs (Spent ∷ vs) id w k at = absurd k
  drawn_below (n ∷ cs) hs (Frame f ∷ vs) zero w k at = absurd (frame_no_worker f w at)
  drawn_below (n ∷ cs) hs (Frame f ∷ vs) (suc i) w k at = below_next n cs hs f vs k i w at

  abbrev TableMay : ℕ → Table T → TableAction → Type 0
  TableMay workers s x = (t : Table T) × TableLeads workers s x t

  module _ (workers : ℕ) (s : Table T) (ruled : Ruled s) where
    module _ (id : ℕ) (w : WorkerView T) (at : IsSeat s id w) where
      draw_at : (b : Bool) → ltb (get_or s.words 0 0) (length w.parts) ≡ b → w.ended ≡ false → TableMay workers s (DrawBy id)
      draw_at true e going =
          let n = get_or s.words 0 0 in
          let v : View T = Worker (after_draw w n) in (
            stepped s 0 ((n + 1) % 2 ^ 64) id [] v (takes n (slice_get w.parts n)),
            (
              w,
              at,
              going,
              (
                [],
                v,
                takes n (slice_get w.parts n),
                tt,
                part_home s.words s.homes s.views id w ruled at e,
                ((λ j. (v, cond {A = List (ℕ × Option T)} (sym e j) ((n, slice_get w.parts n) ∷ []) [])), drawn_below s.words s.homes s.views id w ruled at),
                refl,
              ),
            ),
          )
      draw_at false e going =
          let n = get_or s.words 0 0 in
          let v : View T = Worker (after_draw w n) in (
            stepped s 0 ((n + 1) % 2 ^ 64) id [] v keeps,
            (
              w,
              at,
              going,
              (
                [],
                v,
                keeps,
                tt,
                tt,
                ((λ j. (v, cond {A = List (ℕ × Option T)} (sym e j) ((n, slice_get w.parts n) ∷ []) [])), drawn_below s.words s.homes s.views id w ruled at),
                refl,
              ),
            ),
          )

      keep_at : (b : ℕ) → b < w.buffers → length w.holds < 2 ^ 56 → TableMay workers s (KeepBy id b)
      keep_at b lt room =
          let v : View T = Worker (after_keep w (b + 1 - 1)) in
          (stepped s (b + 1) ((get_or s.words (b + 1) 0 + 1) % 2 ^ 64) id [] v keeps, (w, at, lt, room, ([], v, keeps, tt, tt, refl, refl)))

      release_at : (b : ℕ) → 0 < times b w.holds → TableMay workers s (ReleaseBy id b)
      release_at b has =
          let v : View T = Worker (after_release w (b + 1 - 1)) in (
            stepped s (b + 1) ((get_or s.words (b + 1) 0 + (2 ^ 64 - 1)) % 2 ^ 64) id [] v keeps,
            (w, at, has, ([], v, keeps, tt, tt, (refl, twice s.words s.homes s.views id w b ruled at has), refl)),
          )

      look_at : (b : ℕ) → 0 < times b w.holds → TableMay workers s (LookBy id b)
      look_at b has =
          let v : View T = Worker w in
          (stepped s (b + 1) (get_or s.words (b + 1) 0) id [] v keeps, (w, at, has, ([], v, keeps, tt, tt, (refl, twice s.words s.homes s.views id w b ruled at has), refl)))

  -- ---- a seat that leaves

  -- the new seat's place, and the frame's
  last_at : (vs : List (View T)) (id : ℕ) (v : View T) (x : View T) → get_elem? (set vs id v ++ x ∷ []) (length vs) ≡ some x
  last_at [] id v x = refl
  last_at (y ∷ vs) zero v x = last_again vs x
    where
      last_again : (l : List (View T)) (x : View T) → get_elem? (l ++ x ∷ []) (length l) ≡ some x
      last_again [] x = refl
      last_again (y ∷ l) x = last_again l x
  last_at (y ∷ vs) (suc i) v x = last_at vs i v x

  first_stays : (vs : List (View T)) (f : FrameView T) (id : ℕ) (w : WorkerView T) (v x : View T) → get_elem? vs 0 ≡ some (Frame f) → get_elem? vs id ≡ some (Worker w) → get_elem? (set vs id v ++ x ∷ []) 0 ≡ some (Frame f)
  first_stays [] f id w v x first at = absurd (some-ne-none (Frame f) (sym first))
  first_stays (y ∷ vs) f zero w v x first at = absurd (frame_no_worker f w (sym first ∙ at))
  first_stays (y ∷ vs) f (suc i) w v x first at = first

  module _ (kind : Scheduling) (u : SetupValue) (m : Moment T) (ruled : Ruled m.table) where
    at_table : (x : TableAction) → TableMay u.workers m.table x → MayAct kind u m (AtTable x)
    at_table x t = (record m { table = t.0 }, (t.0, t.1, refl))

    leaves : (f : FrameView T) (id : ℕ) (w : WorkerView T) → IsFrame m.table f → IsSeat m.table id w → w.holds ≡ []
        → (n : Moment T) × Leads kind u m (AtTable (MoveSeat id)) n × MayAct kind u n (AtTable (JoinSeat (length m.table.views)))
    leaves f id w first at none =
        let s = m.table in
        let t = parted s id (moved_left (Worker w)) (Worker w) in
        let v = merged t 0 (both_of (Frame f) (Worker w)) (length s.views) Spent in (
          record m { table = t },
          (t, (w, at, refl), refl),
          (
            record m { table = v },
            (v, (f, w, first_stays s.views f id w Spent (Worker w) first at, last_at s.views id Spent (Worker w), none, refl), refl),
          ),
        )

    module _ (id : ℕ) (w : WorkerView T) (c : ℕ) (at : IsSeat m.table id w) (has : Has kind m w c) (below : m.work.next c < end u c) (going : m.work.stopped c ≡ false) where
      cell_at : (x : CellValue) → slice_get u.cells (m.work.next c) ≡ Some x → MayAct kind u m (WriteBy id c) ⊎ MayAct kind u m (StopBy id c)
      cell_at (Ok value) e = inl (_, (w, value, at, has, below, going, e, refl))
      cell_at (Err fault) e = inr (_, (w, fault, at, has, below, going, e, refl))

      cell : MayAct kind u m (WriteBy id c) ⊎ MayAct kind u m (StopBy id c)
      cell = ⊎_elim (λ there. cell_at there.0 there.2) (λ past. (let p = past.0 in absurd (omega arith))) (slice_get_cases u.cells (m.work.next c)).1

    pub calls_are_steps : CallsAreSteps kind u m
    calls_are_steps = record {
      seat = λ f first room. at_table MakeSeat (parted m.table 0 (left_of (Frame f)) (right_of (Frame f)), (f, first, room, refl));
      draw = λ id w at going. at_table (DrawBy id) (draw_at u.workers m.table ruled id w at (ltb (get_or m.table.words 0 0) (length w.parts)) refl going);
      take = λ id w at. at_table (TakeBy id) (m.table, (w, at, refl));
      keep = λ id w b at lt room. at_table (KeepBy id b) (keep_at u.workers m.table ruled id w at b lt room);
      release = λ id w b at has. at_table (ReleaseBy id b) (release_at u.workers m.table ruled id w at b has);
      look = λ id w b at has. at_table (LookBy id b) (look_at u.workers m.table ruled id w at b has);
      leave = leaves;
      cell = λ id w c at has below going. cell id w c at has below going;
    }
