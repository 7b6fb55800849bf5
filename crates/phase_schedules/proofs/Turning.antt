-- What a table and the chunks that were assigned stand for after each kind of step, however chunks get to workers.
use Rattle.std.proofs.Common.{◌≡◌, ◌≢◌, ℕ, zero, suc, ◌+◌, ◌-◌, ◌%◌, ◌^◌, ◌<◌, ◌⊎◌, List, [], ◌∷◌, ◌++◌, Some, length, length-append, set, get_or, refl, sym, ap, ◌∙◌, inl, inr, ⊎_elim, arith}
use Rattle.std.specs.Prelude.{slice_get}
use Rattle.std.proofs.lemmas.Option.{slice_get_within}
use mathlib.Core.Option.{some, Option as Home}
use lib.ListN.{get_elem?}
use Rattle.std.specs.declared.option.Option.{Option}
use Rattle.wl_core.specs.declared.events.Event.{Event}
use Rattle.wl_core.specs.declared.events.Event.TheVariants.{Draw, Keep, Release}
use Rattle.wl_core.specs.Machine.{SetupValue, StateValue, Steps}
use Rattle.wl_core.proofs.Functions.{put_same, put_other}
use Rattle.count_table.specs.declared.view.FrameView.{FrameView}
use Rattle.count_table.specs.declared.view.WorkerView.{WorkerView}
use Rattle.count_table.specs.declared.view.View.{View}
use Rattle.count_table.specs.declared.view.View.TheVariants.{Frame, Worker, Spent}
use Rattle.count_table.specs.Views.{times}
use Rattle.count_table.specs.Rule.{Keeps, Ruled}
use Rattle.count_table.specs.Plays.{after_keep, after_release, both_of, left_of, moved_left, moved_right, right_of}
use Rattle.phase_schedules.specs.Interleavings.{Has, IsSeat}
use Rattle.phase_schedules.specs.Moments.{Dynamic, Moment, Scheduling, Static}
use Rattle.phase_schedules.specs.Readings.{IsAssigned, Reads}
use Rattle.phase_schedules.proofs.Ahead.{SameTable}
use Rattle.phase_schedules.proofs.Holds as held
use Rattle.phase_schedules.proofs.Holds.{ReadsHeld}
use Rattle.phase_schedules.proofs.Readings as drawn

assigned_same : (l : List ℕ) (s t : StateValue) → IsAssigned l s → t.taken ≡ s.taken → t.owner ≡ s.owner → IsAssigned l t
assigned_same l s t a taken owner = record { taken = taken ∙ a.taken; owners = λ c n at. ap (λ (g : ℕ → ℕ). g c) owner ∙ a.owners c n at }

-- an element of a list with one more at its end
last_or_before : (l : List ℕ) (w c n : ℕ) → slice_get (l ++ w ∷ []) c ≡ Some n → ((c ≡ length l) × (w ≡ n)) ⊎ ((c ≢ length l) × (slice_get l c ≡ Some n))
last_or_before [] w zero n e = inl (refl, cc)
last_or_before [] w (suc c) n e = absurd (cc)
last_or_before (x ∷ l) w zero n e = inr ((λ h. omega arith), e)
last_or_before (x ∷ l) w (suc c) n e = ⊎_elim (λ t. inl (ap suc t.0, t.1)) (λ t. let ne = t.0 in inr ((λ h. ne (omega arith)), t.1)) (last_or_before l w c n e)

module _ {T : Type 0} (u : SetupValue) (s : StateValue) where
  pub reads_same : (kind : Scheduling) (t : StateValue) (ws : List ℕ) (vs : List (View T)) (l : List ℕ) → Reads kind u ws vs l s → SameTable s t → Reads kind u ws vs l t
  reads_same Dynamic t ws vs l r same = drawn.reads_same u s t ws vs r same
  reads_same Static t ws vs l r same = (held.held_same u s t ws vs r.0 same, assigned_same l s t r.1 same.taken same.owner)

  pub held_of : (kind : Scheduling) (ws : List ℕ) (vs : List (View T)) (l : List ℕ) → Reads kind u ws vs l s → ReadsHeld u ws vs s
  held_of Dynamic ws vs l r = held.held_of_drawn u s ws vs r
  held_of Static ws vs l r = r.0

  -- a chunk of the worker's own
  pub own_chunk : (kind : Scheduling) (m : Moment T) (id : ℕ) (w : WorkerView T) (c : ℕ) → Ruled m.table → Reads kind u m.table.words m.table.views m.assigned s → IsSeat m.table id w → Has kind m w c
      → (c < s.taken) × (s.owner c ≡ w.number)
  own_chunk Dynamic m id w c ruled r at has = (drawn.owns u s m.table.words m.table.homes m.table.views id w ruled r at).chunks_of c has
  own_chunk Static m id w c ruled r at has = ((let l = slice_get_within m.assigned c w.number has in let e = r.1.taken in omega arith), r.1.owners c w.number has)

  -- the next chunk was assigned
  pub assign_reads : (w : ℕ) (t : StateValue) (ws : List ℕ) (hs : List (Home (Option T))) (vs : List (View T)) (l : List ℕ) → Keeps ws hs vs → Reads Static u ws vs l s → Steps u s (Draw w) t → Reads Static u ws vs (l ++ w ∷ []) t
  assign_reads w t ws hs vs l k r st =
      let len = length-append l (w ∷ []) in
      let was = r.1.taken in
      let taken : t.taken ≡ s.taken + 1 = ap (λ (x : StateValue). x.taken) st.3 in (
        held.drawn_held u s w t ws hs vs k r.0 st,
        record {
          taken = omega arith;
          owners = λ c n at.
              ap (λ (x : StateValue). x.owner c) st.3
              ∙ ⊎_elim
              (λ (e : (c ≡ length l) × (w ≡ n)). put_same s.owner s.taken w c (e.0 ∙ sym was) ∙ e.1)
              (λ (e : (c ≢ length l) × (slice_get l c ≡ Some n)). put_other s.owner s.taken w c (λ q. e.0 (q ∙ was)) ∙ r.1.owners c n e.1)
              (last_or_before l w c n at);
        },
      )

  -- an event leads to a state that these stand for
  abbrev pub LeadsOn : Scheduling → Event → List ℕ → List (View T) → List ℕ → Type 0
  LeadsOn kind e ws vs l = (t : StateValue) × Steps u s e t × Reads kind u ws vs l t

  module _ (ws : List ℕ) (hs : List (Home (Option T))) (vs : List (View T)) (l : List ℕ) (id : ℕ) (w : WorkerView T) (k : Keeps ws hs vs) (at : get_elem? vs id ≡ some (Worker w)) where
    pub number : (kind : Scheduling) → Reads kind u ws vs l s → w.number < u.workers
    number kind r = held.number_below u s ws hs vs id w k (held_of kind ws vs l r) at

    pub keep_reads : (kind : Scheduling) (b : ℕ) → Reads kind u ws vs l s → b < w.buffers → length w.holds < 2 ^ 56
        → LeadsOn kind (Keep w.number b) (set ws (b + 1) ((get_or ws (b + 1) 0 + 1) % 2 ^ 64)) (set vs id (Worker (after_keep w b))) l
    keep_reads Dynamic b r lt room = drawn.keep_reads u s ws hs vs id w b k r at lt room
    keep_reads Static b r lt room =
        let e = held.keep_held u s ws hs vs id w b k r.0 at lt room in
        (e.0, e.1, (e.2, assigned_same l s e.0 r.1 (ap (λ (x : StateValue). x.taken) e.1.3) (ap (λ (x : StateValue). x.owner) e.1.3)))

    pub release_reads : (kind : Scheduling) (b : ℕ) → Reads kind u ws vs l s → 0 < times b w.holds
        → LeadsOn kind (Release w.number b) (set ws (b + 1) ((get_or ws (b + 1) 0 + (2 ^ 64 - 1)) % 2 ^ 64)) (set vs id (Worker (after_release w b))) l
    release_reads Dynamic b r has = drawn.release_reads u s ws hs vs id w b k r at has
    release_reads Static b r has =
        let e = held.release_held u s ws hs vs id w b k r.0 at has in
        (e.0, e.1, (e.2, assigned_same l s e.0 r.1 (ap (λ (x : StateValue). x.taken) e.1.3) (ap (λ (x : StateValue). x.owner) e.1.3)))

    pub look_reads : (kind : Scheduling) (b : ℕ) → Reads kind u ws vs l s → Reads kind u (set ws (b + 1) (get_or ws (b + 1) 0)) (set vs id (Worker w)) l s
    look_reads Dynamic b r = drawn.look_reads u s ws hs vs id w b k r at
    look_reads Static b r = (held.look_held u s ws hs vs id w b k r.0 at, r.1)

    pub move_reads : (kind : Scheduling) → Reads kind u ws vs l s → Reads kind u ws (set vs id (moved_left (Worker w)) ++ moved_right (Worker w) ∷ []) l s
    move_reads Dynamic r = drawn.move_reads u s ws hs vs id w k r at
    move_reads Static r = (held.move_held u s ws hs vs id w k r.0 at, r.1)

    module _ (f : FrameView T) (first : get_elem? vs 0 ≡ some (Frame f)) where
      pub join_reads : (kind : Scheduling) → Reads kind u ws vs l s → w.holds ≡ [] → Reads kind u ws (set (set vs 0 (both_of (Frame f) (Worker w))) id Spent) l s
      join_reads Dynamic r none = drawn.join_reads u s ws hs vs f id w k r first at none
      join_reads Static r none = (held.join_held u s ws hs vs f id w k r.0 first at none, r.1)

  pub seat_reads : (kind : Scheduling) (ws : List ℕ) (hs : List (Home (Option T))) (vs : List (View T)) (l : List ℕ) (f : FrameView T) → Keeps ws hs vs → Reads kind u ws vs l s → get_elem? vs 0 ≡ some (Frame f) → f.made < u.workers
      → Reads kind u ws (set vs 0 (left_of (Frame f)) ++ right_of (Frame f) ∷ []) l s
  seat_reads Dynamic ws hs vs l f k r first room = drawn.seat_reads u s ws hs vs f k r first room
  seat_reads Static ws hs vs l f k r first room = (held.seat_held u s ws hs vs f k r.0 first room, r.1)
