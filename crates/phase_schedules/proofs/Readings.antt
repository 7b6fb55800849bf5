-- What a table stands for, after each kind of step on it.
use Rattle.std.proofs.Common.{◌≡◌, ◌≢◌, ℕ, zero, suc, ◌+◌, ◌-◌, ◌%◌, ◌^◌, ◌<◌, ◌≤◌, min, true, false, cond, ltb, eqb, List, [], ◌∷◌, ◌++◌, length, set, get_or, refl, sym, ap, subst, ◌∙◌, ⊎_elim, arith, add-one}
use Rattle.std.proofs.lemmas.Bool.{cases_eq, cases_lt, eq-eqb, le-ltb, ne_eqb}
use mathlib.Core.Option.{some, Option as Home}
use lib.ListN.{get_elem?}
use Rattle.std.specs.declared.option.Option.{Option}
use Rattle.wl_core.specs.declared.events.Event.{Event}
use Rattle.wl_core.specs.declared.events.Event.TheVariants.{Draw, Keep, Release}
use Rattle.wl_core.specs.Machine.{SetupValue, StateValue, Steps, Works, chunks}
use Rattle.count_table.specs.declared.view.FrameView.{FrameView}
use Rattle.count_table.specs.declared.view.WorkerView.{WorkerView}
use Rattle.count_table.specs.declared.view.View.{View}
use Rattle.count_table.specs.declared.view.View.TheVariants.{Frame, Worker, Spent}
use Rattle.count_table.specs.Views.{drawn_of, times}
use Rattle.count_table.specs.Rule.{Counted, Keeps}
use Rattle.count_table.specs.Plays.{after_draw, after_keep, after_release, both_of, left_of, moved_left, moved_right, right_of}
use Rattle.count_table.specs.Reading.{IsReading, owned_by}
use Rattle.count_table.proofs.Totals.{total_at}
use Rattle.count_table.proofs.Facts.{frame_no_worker}
use Rattle.count_table.proofs.Reading.{steps_are_events}
use Rattle.phase_schedules.specs.Readings.{AtFrame}
use Rattle.phase_schedules.proofs.Ahead.{SameTable}
use Rattle.phase_schedules.proofs.Places.{at_first, at_worker}

-- as `count_table` reads a table whose chunks are drawn
abbrev pub ReadsDrawn : {T : Type 0} → SetupValue → List ℕ → List (View T) → StateValue → Type 0
ReadsDrawn u ws vs s = AtFrame (λ next counts f views. IsReading u next counts f views s) ws vs

module _ {T : Type 0} (u : SetupValue) where
  same_reading : (s t : StateValue) (n : ℕ) (cs : List ℕ) (f : FrameView T) (vs : List (View T)) → IsReading u n cs f vs s → SameTable s t → IsReading u n cs f vs t
  same_reading s t n cs f vs r same = record {
    chunks_are = r.chunks_are;
    opening_is = r.opening_is;
    few_seats = r.few_seats;
    taken = same.taken ∙ r.taken;
    owners = λ c k lt. r.owners c k (let e = same.taken in omega arith) ∙ ap (λ (g : ℕ → ℕ). cond {A = ℕ} (eqb (g c) k) 1 0) (sym same.owner);
    counts_are = λ b lt. ap (λ (g : ℕ → ℕ). g b) same.count ∙ r.counts_are b lt;
    holds_are = λ k b lt lt'. ap (λ (g : ℕ → ℕ → ℕ). g k b) same.holds ∙ r.holds_are k b lt lt';
  }

  pub reads_same : (s t : StateValue) (ws : List ℕ) (vs : List (View T)) → ReadsDrawn u ws vs s → SameTable s t → ReadsDrawn u ws vs t
  reads_same s t [] vs r same = r
  reads_same s t (n ∷ cs) [] r same = r
  reads_same s t (n ∷ cs) (Frame f ∷ vs) r same = same_reading s t n cs f vs r same
  reads_same s t (n ∷ cs) (Worker w ∷ vs) r same = r
  reads_same s t (n ∷ cs) (Spent ∷ vs) r same = r

  -- a worker's number, and its chunks
  pub record Owns (w : WorkerView T) (s : StateValue) : Type 0 where
    pub number : w.number < u.workers
    pub chunks_of : (c : ℕ) → 0 < times c w.drawn → (c < s.taken) × (s.owner c ≡ w.number)

  owns_at : (n : ℕ) (cs : List ℕ) (hs : List (Home (Option T))) (f : FrameView T) (vs : List (View T)) (i : ℕ) (w : WorkerView T) (s : StateValue)
      → Counted n cs hs f vs → IsReading u n cs f vs s → get_elem? vs i ≡ some (Worker w) → Owns w s
  owns_at n cs hs f vs i w s h r at = record {
    number = let a = (h.fit i (Worker w) at).number_made in let b = r.few_seats in omega arith;
    chunks_of = λ c has.
        let t = total_at (λ v. times c (drawn_of v)) vs i (Worker w) at in
        let once = h.each_once c in
        let lt : c < min n (length f.parts) = ⊎_elim
        (λ (l : c < min n (length f.parts)). l)
        (λ (ge : min n (length f.parts) ≤ c). absurd (let none : cond {A = ℕ} (ltb c (min n (length f.parts))) 1 0 ≡ 0 = (let e : ltb c (min n (length f.parts)) ≡ false = le-ltb c (min n (length f.parts)) ge in rw e refl) in omega arith))
        (cases_lt c (min n (length f.parts))) in
        let taken : c < s.taken = (let a = r.taken in let b = r.chunks_are in omega arith) in (
          taken,
          ⊎_elim (λ (e : s.owner c ≡ w.number). e)
              (λ (ne : s.owner c ≢ w.number). absurd (
              let o = r.owners c w.number taken in
              let none : cond {A = ℕ} (eqb (s.owner c) w.number) 1 0 ≡ 0 = (let e : eqb (s.owner c) w.number ≡ false = ne_eqb (s.owner c) w.number ne in rw e refl) in
              let mine : owned_by {T = T} w.number c (Worker w) ≡ times c w.drawn = (let e : eqb w.number w.number ≡ true = eq-eqb w.number w.number refl in rw e refl) in
              let a = total_at (owned_by w.number c) vs i (Worker w) at in omega arith))
              (cases_eq (s.owner c) w.number),
        );
  }

  module _ (s : StateValue) where
    pub owns : (ws : List ℕ) (hs : List (Home (Option T))) (vs : List (View T)) (id : ℕ) (w : WorkerView T) → Keeps ws hs vs → ReadsDrawn u ws vs s → get_elem? vs id ≡ some (Worker w) → Owns w s
    owns ws hs vs id w k r at = at_worker hs w (λ us xs j. ReadsDrawn u us xs s → Owns w s) (λ n cs f xs i k at r. owns_at n cs hs f xs i w s k r at) ws vs id k at r

    -- an event leads to a state that these words and views stand for
    abbrev pub LeadsOn : Event → List ℕ → List (View T) → Type 0
    LeadsOn e ws vs = (t : StateValue) × Steps u s e t × ReadsDrawn u ws vs t

    pub draw_reads : (ws : List ℕ) (hs : List (Home (Option T))) (vs : List (View T)) (id : ℕ) (w : WorkerView T) → Keeps ws hs vs → ReadsDrawn u ws vs s → get_elem? vs id ≡ some (Worker w)
        → get_or ws 0 0 < chunks u → ((c : ℕ) → ¬ Works u s w.number c)
        → LeadsOn (Draw w.number) (set ws 0 ((get_or ws 0 0 + 1) % 2 ^ 64)) (set vs id (Worker (after_draw w (get_or ws 0 0))))
    draw_reads ws hs vs id w k r at =
        at_worker hs w
        (λ us xs j. ReadsDrawn u us xs s → get_or us 0 0 < chunks u → ((c : ℕ) → ¬ Works u s w.number c)
        → LeadsOn (Draw w.number) (set us 0 ((get_or us 0 0 + 1) % 2 ^ 64)) (set xs j (Worker (after_draw w (get_or us 0 0)))))
        (λ n cs f xs i k at r more idle. (steps_are_events u s n cs hs f xs k r).draw i w at more idle) ws vs id k at r

    pub none_reads : (ws : List ℕ) (hs : List (Home (Option T))) (vs : List (View T)) (id : ℕ) (w : WorkerView T) → Keeps ws hs vs → ReadsDrawn u ws vs s → get_elem? vs id ≡ some (Worker w)
        → chunks u ≤ get_or ws 0 0
        → ReadsDrawn u (set ws 0 ((get_or ws 0 0 + 1) % 2 ^ 64)) (set vs id (Worker (after_draw w (get_or ws 0 0)))) s
    none_reads ws hs vs id w k r at =
        at_worker hs w (λ us xs j. ReadsDrawn u us xs s → chunks u ≤ get_or us 0 0 → ReadsDrawn u (set us 0 ((get_or us 0 0 + 1) % 2 ^ 64)) (set xs j (Worker (after_draw w (get_or us 0 0)))) s)
        (λ n cs f xs i k at r none. (steps_are_events u s n cs hs f xs k r).draw_none i w at none) ws vs id k at r

    keep_at : (ws : List ℕ) (hs : List (Home (Option T))) (vs : List (View T)) (id : ℕ) (w : WorkerView T) (b : ℕ) → Keeps ws hs vs → ReadsDrawn u ws vs s → get_elem? vs id ≡ some (Worker w)
        → b < w.buffers → length w.holds < 2 ^ 56
        → LeadsOn (Keep w.number b) (set ws (suc b) ((get_or ws (suc b) 0 + 1) % 2 ^ 64)) (set vs id (Worker (after_keep w b)))
    keep_at ws hs vs id w b k r at lt room =
        at_worker hs w (λ us xs j. ReadsDrawn u us xs s → LeadsOn (Keep w.number b) (set us (suc b) ((get_or us (suc b) 0 + 1) % 2 ^ 64)) (set xs j (Worker (after_keep w b))))
        (λ n cs f xs i k at r. (steps_are_events u s n cs hs f xs k r).keep i w b at lt room) ws vs id k at r

    release_at : (ws : List ℕ) (hs : List (Home (Option T))) (vs : List (View T)) (id : ℕ) (w : WorkerView T) (b : ℕ) → Keeps ws hs vs → ReadsDrawn u ws vs s → get_elem? vs id ≡ some (Worker w)
        → 0 < times b w.holds
        → LeadsOn (Release w.number b) (set ws (suc b) ((get_or ws (suc b) 0 + (2 ^ 64 - 1)) % 2 ^ 64)) (set vs id (Worker (after_release w b)))
    release_at ws hs vs id w b k r at has =
        at_worker hs w (λ us xs j. ReadsDrawn u us xs s → LeadsOn (Release w.number b) (set us (suc b) ((get_or us (suc b) 0 + (2 ^ 64 - 1)) % 2 ^ 64)) (set xs j (Worker (after_release w b))))
        (λ n cs f xs i k at r. (steps_are_events u s n cs hs f xs k r).release i w b at has) ws vs id k at r

    look_at : (ws : List ℕ) (hs : List (Home (Option T))) (vs : List (View T)) (id : ℕ) (w : WorkerView T) (b : ℕ) → Keeps ws hs vs → ReadsDrawn u ws vs s → get_elem? vs id ≡ some (Worker w)
        → ReadsDrawn u (set ws (suc b) (get_or ws (suc b) 0)) (set vs id (Worker w)) s
    look_at ws hs vs id w b k r at =
        at_worker hs w (λ us xs j. ReadsDrawn u us xs s → ReadsDrawn u (set us (suc b) (get_or us (suc b) 0)) (set xs j (Worker w)) s) (λ n cs f xs i k at r. (steps_are_events u s n cs hs f xs k r).look i w b at) ws vs id k at r

    module _ (ws : List ℕ) (hs : List (Home (Option T))) (vs : List (View T)) (id : ℕ) (w : WorkerView T) (b : ℕ) (k : Keeps ws hs vs) (r : ReadsDrawn u ws vs s) (at : get_elem? vs id ≡ some (Worker w)) where
      pub keep_reads : b < w.buffers → length w.holds < 2 ^ 56 → LeadsOn (Keep w.number b) (set ws (b + 1) ((get_or ws (b + 1) 0 + 1) % 2 ^ 64)) (set vs id (Worker (after_keep w b)))
      keep_reads lt room =
          subst (λ (i : ℕ). LeadsOn (Keep w.number b) (set ws i ((get_or ws i 0 + 1) % 2 ^ 64)) (set vs id (Worker (after_keep w b)))) (sym (add-one b)) (keep_at ws hs vs id w b k r at lt room)

      pub release_reads : 0 < times b w.holds → LeadsOn (Release w.number b) (set ws (b + 1) ((get_or ws (b + 1) 0 + (2 ^ 64 - 1)) % 2 ^ 64)) (set vs id (Worker (after_release w b)))
      release_reads has =
          subst (λ (i : ℕ). LeadsOn (Release w.number b) (set ws i ((get_or ws i 0 + (2 ^ 64 - 1)) % 2 ^ 64)) (set vs id (Worker (after_release w b)))) (sym (add-one b)) (release_at ws hs vs id w b k r at has)

      pub look_reads : ReadsDrawn u (set ws (b + 1) (get_or ws (b + 1) 0)) (set vs id (Worker w)) s
      look_reads = subst (λ (i : ℕ). ReadsDrawn u (set ws i (get_or ws i 0)) (set vs id (Worker w)) s) (sym (add-one b)) (look_at ws hs vs id w b k r at)

    pub seat_reads : (ws : List ℕ) (hs : List (Home (Option T))) (vs : List (View T)) (f : FrameView T) → Keeps ws hs vs → ReadsDrawn u ws vs s → get_elem? vs 0 ≡ some (Frame f) → f.made < u.workers
        → ReadsDrawn u ws (set vs 0 (left_of (Frame f)) ++ right_of (Frame f) ∷ []) s
    seat_reads ws hs vs f k r at room =
        at_first hs f (λ us xs. ReadsDrawn u us xs s → ReadsDrawn u us (set xs 0 (left_of (Frame f)) ++ right_of (Frame f) ∷ []) s) (λ n cs xs k r. (steps_are_events u s n cs hs f xs k r).seat room) ws vs k at r

    pub move_reads : (ws : List ℕ) (hs : List (Home (Option T))) (vs : List (View T)) (id : ℕ) (w : WorkerView T) → Keeps ws hs vs → ReadsDrawn u ws vs s → get_elem? vs id ≡ some (Worker w)
        → ReadsDrawn u ws (set vs id (moved_left (Worker w)) ++ moved_right (Worker w) ∷ []) s
    move_reads ws hs vs id w k r at =
        at_worker hs w (λ us xs j. ReadsDrawn u us xs s → ReadsDrawn u us (set xs j (moved_left (Worker w)) ++ moved_right (Worker w) ∷ []) s) (λ n cs f xs i k at r. (steps_are_events u s n cs hs f xs k r).move i w at) ws vs id k at r

    pub join_reads : (ws : List ℕ) (hs : List (Home (Option T))) (vs : List (View T)) (f : FrameView T) (id : ℕ) (w : WorkerView T) → Keeps ws hs vs → ReadsDrawn u ws vs s → get_elem? vs 0 ≡ some (Frame f)
        → get_elem? vs id ≡ some (Worker w) → w.holds ≡ []
        → ReadsDrawn u ws (set (set vs 0 (both_of (Frame f) (Worker w))) id Spent) s
    join_reads ws hs vs f id w k r first at none =
        at_first hs f (λ us xs. get_elem? xs id ≡ some (Worker w) → ReadsDrawn u us xs s → ReadsDrawn u us (set (set xs 0 (both_of (Frame f) (Worker w))) id Spent) s) (λ n cs xs. joins n cs xs id) ws vs k first at r
      where
        joins : (n : ℕ) (cs : List ℕ) (xs : List (View T)) (j : ℕ) → Keeps (n ∷ cs) hs (Frame f ∷ xs) → get_elem? (Frame f ∷ xs) j ≡ some (Worker w) → ReadsDrawn u (n ∷ cs) (Frame f ∷ xs) s
            → ReadsDrawn u (n ∷ cs) (set (set (Frame f ∷ xs) 0 (both_of (Frame f) (Worker w))) j Spent) s
        joins n cs xs zero k at r = absurd (frame_no_worker f w at)
        joins n cs xs (suc i) k at r = (steps_are_events u s n cs hs f xs k r).join i w at none
