-- What a table says of buffers alone, after each kind of step on it: of a table whose draws mean nothing.
use Rattle.std.proofs.Common.{◌≡◌, ℕ, zero, suc, ◌+◌, ◌-◌, ◌%◌, ◌^◌, ◌<◌, ◌≤◌, Bool, true, false, cond, ltb, List, [], ◌∷◌, ◌++◌, length, set, get_or, refl, sym, ap, subst, ◌∙◌, arith, add-one}
use mathlib.Core.Option.{some, Option as Home}
use lib.ListN.{get_elem?}
use Rattle.std.specs.declared.option.Option.{Option}
use Rattle.wl_core.specs.declared.events.Event.{Event}
use Rattle.wl_core.specs.declared.events.Event.TheVariants.{Draw, Keep, Release}
use Rattle.wl_core.specs.Machine.{HoldsNothing, SetupValue, StateValue, Steps}
use Rattle.count_table.specs.declared.view.FrameView.{FrameView}
use Rattle.count_table.specs.declared.view.WorkerView.{WorkerView}
use Rattle.count_table.specs.declared.view.View.{View}
use Rattle.count_table.specs.declared.view.View.TheVariants.{Frame, Worker, Spent}
use Rattle.count_table.specs.Views.{holds_of, is_out, times}
use Rattle.count_table.specs.Rule.{Keeps}
use Rattle.count_table.specs.Plays.{after_draw, after_keep, after_release, both_of, left_of, moved_left, moved_right, right_of}
use Rattle.count_table.specs.HoldsReading.{IsHoldsReading}
use Rattle.count_table.specs.Reading.{held_by}
use Rattle.count_table.proofs.Totals.{total-set}
use Rattle.count_table.proofs.Sums.{total-none}
use Rattle.count_table.proofs.Facts.{frame_no_worker, held_twice}
use Rattle.count_table.proofs.HoldsReading.{holds_are_events}
use Rattle.phase_schedules.specs.Readings.{AtFrame}
use Rattle.phase_schedules.proofs.Ahead.{SameTable}
use Rattle.phase_schedules.proofs.Places.{at_first, at_frame, at_worker}
use Rattle.phase_schedules.proofs.Readings.{ReadsDrawn}

-- as `count_table` reads a table that no chunk is drawn from
abbrev pub ReadsHeld : {T : Type 0} → SetupValue → List ℕ → List (View T) → StateValue → Type 0
ReadsHeld u ws vs s = AtFrame (λ next counts f views. IsHoldsReading u counts f views s) ws vs

module _ {T : Type 0} (u : SetupValue) where
  -- what a table says of chunks and buffers, of buffers alone
  pub held_of_drawn : (s : StateValue) (ws : List ℕ) (vs : List (View T)) → ReadsDrawn u ws vs s → ReadsHeld u ws vs s
  held_of_drawn s [] vs r = r
  held_of_drawn s (n ∷ cs) [] r = r
  held_of_drawn s (n ∷ cs) (Frame f ∷ vs) r = record { opening_is = r.opening_is; few_seats = r.few_seats; counts_are = r.counts_are; holds_are = r.holds_are }
  held_of_drawn s (n ∷ cs) (Worker w ∷ vs) r = r
  held_of_drawn s (n ∷ cs) (Spent ∷ vs) r = r

  same_holds : (s t : StateValue) (cs : List ℕ) (f : FrameView T) (vs : List (View T)) → IsHoldsReading u cs f vs s → SameTable s t → IsHoldsReading u cs f vs t
  same_holds s t cs f vs r same = record {
    opening_is = r.opening_is;
    few_seats = r.few_seats;
    counts_are = λ b lt. ap (λ (g : ℕ → ℕ). g b) same.count ∙ r.counts_are b lt;
    holds_are = λ k b lt lt'. ap (λ (g : ℕ → ℕ → ℕ). g k b) same.holds ∙ r.holds_are k b lt lt';
  }

  pub held_same : (s t : StateValue) (ws : List ℕ) (vs : List (View T)) → ReadsHeld u ws vs s → SameTable s t → ReadsHeld u ws vs t
  held_same s t [] vs r same = r
  held_same s t (n ∷ cs) [] r same = r
  held_same s t (n ∷ cs) (Frame f ∷ vs) r same = same_holds s t cs f vs r same
  held_same s t (n ∷ cs) (Worker w ∷ vs) r same = r
  held_same s t (n ∷ cs) (Spent ∷ vs) r same = r

  module _ (s : StateValue) where
    -- the machine's draw changes nothing of this
    pub drawn_held : (w : ℕ) (t : StateValue) (ws : List ℕ) (hs : List (Home (Option T))) (vs : List (View T)) → Keeps ws hs vs → ReadsHeld u ws vs s → Steps u s (Draw w) t → ReadsHeld u ws vs t
    drawn_held w t ws hs vs = at_frame hs (λ us xs. ReadsHeld u us xs s → Steps u s (Draw w) t → ReadsHeld u us xs t) (λ n cs f xs k r st. (holds_are_events u s n cs hs f xs k r).draw w t st) ws vs

    pub number_below : (ws : List ℕ) (hs : List (Home (Option T))) (vs : List (View T)) (id : ℕ) (w : WorkerView T) → Keeps ws hs vs → ReadsHeld u ws vs s → get_elem? vs id ≡ some (Worker w) → w.number < u.workers
    number_below ws hs vs id w k r at =
        at_worker hs w (λ us xs j. ReadsHeld u us xs s → w.number < u.workers) (λ n cs f xs i k at r. let a = (k.fit i (Worker w) at).number_made in let b = r.few_seats in omega arith) ws vs id k at r

    -- nor does a draw at the table
    undrawn_by : (k b n : ℕ) (w : WorkerView T) (c : Bool) → held_by {T = T} k b (Worker (cond c (record w { drawn = w.drawn ++ n ∷ [] }) (record w { ended = true }))) ≡ held_by k b (Worker w)
    undrawn_by k b n w true = refl
    undrawn_by k b n w false = refl

    draw_at : (n : ℕ) (cs : List ℕ) (f : FrameView T) (vs : List (View T)) (i : ℕ) (w : WorkerView T) → IsHoldsReading u cs f vs s → get_elem? vs i ≡ some (Worker w) → IsHoldsReading u cs f (set vs i (Worker (after_draw w n))) s
    draw_at n cs f vs i w r at = record {
      opening_is = r.opening_is;
      few_seats = r.few_seats;
      counts_are = r.counts_are;
      holds_are = λ k b lt lt'.
          let t = total-set (held_by k b) vs i (Worker w) (Worker (after_draw w n)) at in
          let same = undrawn_by k b n w (ltb n (length w.parts)) in
          let old = r.holds_are k b lt lt' in omega arith;
    }

    pub draw_held : (x : ℕ) (ws : List ℕ) (hs : List (Home (Option T))) (vs : List (View T)) (id : ℕ) (w : WorkerView T) → Keeps ws hs vs → ReadsHeld u ws vs s → get_elem? vs id ≡ some (Worker w)
        → ReadsHeld u (set ws 0 x) (set vs id (Worker (after_draw w (get_or ws 0 0)))) s
    draw_held x ws hs vs id w k r at =
        at_worker hs w (λ us xs j. ReadsHeld u us xs s → ReadsHeld u (set us 0 x) (set xs j (Worker (after_draw w (get_or us 0 0)))) s) (λ n cs f xs i k at r. draw_at n cs f xs i w r at) ws vs id k at r

    -- an event leads to a state of which these words and views say this
    abbrev pub HeldOn : Event → List ℕ → List (View T) → Type 0
    HeldOn e ws vs = (t : StateValue) × Steps u s e t × ReadsHeld u ws vs t

    keep_at : (ws : List ℕ) (hs : List (Home (Option T))) (vs : List (View T)) (id : ℕ) (w : WorkerView T) (b : ℕ) → Keeps ws hs vs → ReadsHeld u ws vs s → get_elem? vs id ≡ some (Worker w)
        → b < w.buffers → length w.holds < 2 ^ 56
        → HeldOn (Keep w.number b) (set ws (suc b) ((get_or ws (suc b) 0 + 1) % 2 ^ 64)) (set vs id (Worker (after_keep w b)))
    keep_at ws hs vs id w b k r at lt room =
        at_worker hs w (λ us xs j. ReadsHeld u us xs s → HeldOn (Keep w.number b) (set us (suc b) ((get_or us (suc b) 0 + 1) % 2 ^ 64)) (set xs j (Worker (after_keep w b))))
        (λ n cs f xs i k at r. (holds_are_events u s n cs hs f xs k r).keep i w b at lt room) ws vs id k at r

    release_at : (ws : List ℕ) (hs : List (Home (Option T))) (vs : List (View T)) (id : ℕ) (w : WorkerView T) (b : ℕ) → Keeps ws hs vs → ReadsHeld u ws vs s → get_elem? vs id ≡ some (Worker w)
        → 0 < times b w.holds
        → HeldOn (Release w.number b) (set ws (suc b) ((get_or ws (suc b) 0 + (2 ^ 64 - 1)) % 2 ^ 64)) (set vs id (Worker (after_release w b)))
    release_at ws hs vs id w b k r at has =
        at_worker hs w (λ us xs j. ReadsHeld u us xs s → HeldOn (Release w.number b) (set us (suc b) ((get_or us (suc b) 0 + (2 ^ 64 - 1)) % 2 ^ 64)) (set xs j (Worker (after_release w b))))
        (λ n cs f xs i k at r. (holds_are_events u s n cs hs f xs k r).release i w b at has) ws vs id k at r

    look_at : (ws : List ℕ) (hs : List (Home (Option T))) (vs : List (View T)) (id : ℕ) (w : WorkerView T) (b : ℕ) → Keeps ws hs vs → ReadsHeld u ws vs s → get_elem? vs id ≡ some (Worker w)
        → ReadsHeld u (set ws (suc b) (get_or ws (suc b) 0)) (set vs id (Worker w)) s
    look_at ws hs vs id w b k r at =
        at_worker hs w (λ us xs j. ReadsHeld u us xs s → ReadsHeld u (set us (suc b) (get_or us (suc b) 0)) (set xs j (Worker w)) s) (λ n cs f xs i k at r. (holds_are_events u s n cs hs f xs k r).look i w b at) ws vs id k at r

    module _ (ws : List ℕ) (hs : List (Home (Option T))) (vs : List (View T)) (id : ℕ) (w : WorkerView T) (b : ℕ) (k : Keeps ws hs vs) (r : ReadsHeld u ws vs s) (at : get_elem? vs id ≡ some (Worker w)) where
      pub keep_held : b < w.buffers → length w.holds < 2 ^ 56 → HeldOn (Keep w.number b) (set ws (b + 1) ((get_or ws (b + 1) 0 + 1) % 2 ^ 64)) (set vs id (Worker (after_keep w b)))
      keep_held lt room =
          subst (λ (i : ℕ). HeldOn (Keep w.number b) (set ws i ((get_or ws i 0 + 1) % 2 ^ 64)) (set vs id (Worker (after_keep w b)))) (sym (add-one b)) (keep_at ws hs vs id w b k r at lt room)

      pub release_held : 0 < times b w.holds → HeldOn (Release w.number b) (set ws (b + 1) ((get_or ws (b + 1) 0 + (2 ^ 64 - 1)) % 2 ^ 64)) (set vs id (Worker (after_release w b)))
      release_held has =
          subst (λ (i : ℕ). HeldOn (Release w.number b) (set ws i ((get_or ws i 0 + (2 ^ 64 - 1)) % 2 ^ 64)) (set vs id (Worker (after_release w b)))) (sym (add-one b)) (release_at ws hs vs id w b k r at has)

      pub look_held : ReadsHeld u (set ws (b + 1) (get_or ws (b + 1) 0)) (set vs id (Worker w)) s
      look_held = subst (λ (i : ℕ). ReadsHeld u (set ws i (get_or ws i 0)) (set vs id (Worker w)) s) (sym (add-one b)) (look_at ws hs vs id w b k r at)

    pub seat_held : (ws : List ℕ) (hs : List (Home (Option T))) (vs : List (View T)) (f : FrameView T) → Keeps ws hs vs → ReadsHeld u ws vs s → get_elem? vs 0 ≡ some (Frame f) → f.made < u.workers
        → ReadsHeld u ws (set vs 0 (left_of (Frame f)) ++ right_of (Frame f) ∷ []) s
    seat_held ws hs vs f k r at room =
        at_first hs f (λ us xs. ReadsHeld u us xs s → ReadsHeld u us (set xs 0 (left_of (Frame f)) ++ right_of (Frame f) ∷ []) s) (λ n cs xs k r. (holds_are_events u s n cs hs f xs k r).seat room) ws vs k at r

    pub move_held : (ws : List ℕ) (hs : List (Home (Option T))) (vs : List (View T)) (id : ℕ) (w : WorkerView T) → Keeps ws hs vs → ReadsHeld u ws vs s → get_elem? vs id ≡ some (Worker w)
        → ReadsHeld u ws (set vs id (moved_left (Worker w)) ++ moved_right (Worker w) ∷ []) s
    move_held ws hs vs id w k r at =
        at_worker hs w (λ us xs j. ReadsHeld u us xs s → ReadsHeld u us (set xs j (moved_left (Worker w)) ++ moved_right (Worker w) ∷ []) s) (λ n cs f xs i k at r. (holds_are_events u s n cs hs f xs k r).move i w at) ws vs id k at r

    pub join_held : (ws : List ℕ) (hs : List (Home (Option T))) (vs : List (View T)) (f : FrameView T) (id : ℕ) (w : WorkerView T) → Keeps ws hs vs → ReadsHeld u ws vs s → get_elem? vs 0 ≡ some (Frame f)
        → get_elem? vs id ≡ some (Worker w) → w.holds ≡ []
        → ReadsHeld u ws (set (set vs 0 (both_of (Frame f) (Worker w))) id Spent) s
    join_held ws hs vs f id w k r first at none =
        at_first hs f (λ us xs. get_elem? xs id ≡ some (Worker w) → ReadsHeld u us xs s → ReadsHeld u us (set (set xs 0 (both_of (Frame f) (Worker w))) id Spent) s) (λ n cs xs. joins n cs xs id) ws vs k first at r
      where
        joins : (n : ℕ) (cs : List ℕ) (xs : List (View T)) (j : ℕ) → Keeps (n ∷ cs) hs (Frame f ∷ xs) → get_elem? (Frame f ∷ xs) j ≡ some (Worker w) → ReadsHeld u (n ∷ cs) (Frame f ∷ xs) s
            → ReadsHeld u (n ∷ cs) (set (set (Frame f ∷ xs) 0 (both_of (Frame f) (Worker w))) j Spent) s
        joins n cs xs zero k at r = absurd (frame_no_worker f w at)
        joins n cs xs (suc i) k at r = (holds_are_events u s n cs hs f xs k r).join i w at none

    -- ---- where no worker is out

    none_held : (n b : ℕ) (v : View T) → is_out v ≡ 0 → held_by n b v ≡ 0
    none_held n b (Frame f) z = refl
    none_held n b (Worker w) z = absurd (omega arith)
    none_held n b Spent z = refl

    pub holds_nothing : (ws : List ℕ) (hs : List (Home (Option T))) (vs : List (View T)) (f : FrameView T) → Keeps ws hs vs → ReadsHeld u ws vs s → get_elem? vs 0 ≡ some (Frame f) → f.out ≡ 0 → HoldsNothing u s
    holds_nothing ws hs vs f k r first out =
        at_first hs f (λ us xs. ReadsHeld u us xs s → HoldsNothing u s)
        (λ n cs xs k r w b few lt. r.holds_are w b few lt ∙ total-none (held_by w b) is_out xs (none_held w b) (k.out_is ∙ out)) ws vs k first r

    none_holds : (b : ℕ) (v : View T) → is_out v ≡ 0 → holds_of b v ≡ 0
    none_holds b (Frame f) z = refl
    none_holds b (Worker w) z = absurd (omega arith)
    none_holds b Spent z = refl

    count_at : (ws : List ℕ) (hs : List (Home (Option T))) (vs : List (View T)) (f : FrameView T) → Keeps ws hs vs → ReadsHeld u ws vs s → get_elem? vs 0 ≡ some (Frame f) → f.out ≡ 0
        → (b : ℕ) → b < length u.counts → get_or ws (suc b) 0 ≡ get_or u.counts b 0
    count_at ws hs vs f k r first out =
        at_first hs f (λ us xs. ReadsHeld u us xs s → (b : ℕ) → b < length u.counts → get_or us (suc b) 0 ≡ get_or u.counts b 0) counts ws vs k first r
      where
        counts : (n : ℕ) (cs : List ℕ) (xs : List (View T)) → Keeps (n ∷ cs) hs (Frame f ∷ xs) → ReadsHeld u (n ∷ cs) (Frame f ∷ xs) s → (b : ℕ) → b < length u.counts → get_or (n ∷ cs) (suc b) 0 ≡ get_or u.counts b 0
        counts n cs xs k r b lt =
            let z = total-none (holds_of b) is_out xs (none_holds b) (k.out_is ∙ out) in
            let within : b < length f.opening = (let l = ap length r.opening_is in omega arith) in
            let c = k.count_is b within in
            let same : get_or f.opening b 0 ≡ get_or u.counts b 0 = ap (λ (l : List ℕ). get_or l b 0) r.opening_is in omega arith

    pub counts_back : (ws : List ℕ) (hs : List (Home (Option T))) (vs : List (View T)) (f : FrameView T) → Keeps ws hs vs → ReadsHeld u ws vs s → get_elem? vs 0 ≡ some (Frame f) → f.out ≡ 0
        → (b : ℕ) → b < length u.counts → get_or ws (b + 1) 0 ≡ get_or u.counts b 0
    counts_back ws hs vs f k r first out b lt = subst (λ (i : ℕ). get_or ws i 0 ≡ get_or u.counts b 0) (sym (add-one b)) (count_at ws hs vs f k r first out b lt)

module _ {T : Type 0} where
  held_at : (ws : List ℕ) (hs : List (Home (Option T))) (vs : List (View T)) (id : ℕ) (w : WorkerView T) (b : ℕ) → Keeps ws hs vs → get_elem? vs id ≡ some (Worker w) → 0 < times b w.holds → 2 ≤ get_or ws (suc b) 0
  held_at ws hs vs id w b k at has = at_worker hs w (λ us xs j. 2 ≤ get_or us (suc b) 0) (λ n cs f xs i k at. held_twice n cs hs f xs k i w at b has) ws vs id k at

  pub twice : (ws : List ℕ) (hs : List (Home (Option T))) (vs : List (View T)) (id : ℕ) (w : WorkerView T) (b : ℕ) → Keeps ws hs vs → get_elem? vs id ≡ some (Worker w) → 0 < times b w.holds → 2 ≤ get_or ws (b + 1) 0
  twice ws hs vs id w b k at has = subst (λ (i : ℕ). 2 ≤ get_or ws i 0) (sym (add-one b)) (held_at ws hs vs id w b k at has)
