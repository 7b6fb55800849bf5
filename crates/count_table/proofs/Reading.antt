-- Each kind of step on a phase's table is an event of the phase machine, or leaves its state as it is.
use Rattle.std.proofs.Common.{◌≡◌, ◌≢◌, ℕ, ◌+◌, ◌-◌, ◌*◌, ◌%◌, ◌^◌, ◌<◌, ◌≤◌, min, Bool, true, false, cond, ltb, eqb, List, [], ◌∷◌, ◌++◌, length, set, get_or, sym, refl, ap, ◌∙◌, subst, arith, ⊎_elim}
use Rattle.std.proofs.Math.Nat.{mod-eq_of_lt}
use Rattle.std.proofs.lemmas.Bool.{le-ltb, lt-ltb, ne_eqb, eq-eqb, cases_eq}
use Rattle.std.proofs.lemmas.List.{set-get_or}
use mathlib.Core.Option.{some, Option as Home}
use lib.ListN.{get_elem?}
use Rattle.atomic_table.proofs.Lists.{set_again}
use Rattle.std.specs.declared.option.Option.{Option}
use Rattle.wl_core.specs.declared.events.Event.TheVariants.{Draw, Keep, Release}
use Rattle.wl_core.specs.declared.limits.TheConstants.{MOST_HOLDS}
use Rattle.wl_core.specs.Machine.{SetupValue, StateValue, Works, chunks, first, put, opened as opened_state}
use Rattle.count_table.specs.declared.view.FrameView.{FrameView}
use Rattle.count_table.specs.declared.view.WorkerView.{WorkerView}
use Rattle.count_table.specs.declared.view.View.{View}
use Rattle.count_table.specs.declared.view.View.TheVariants.{Frame, Worker, Spent}
use Rattle.count_table.specs.Views.{times, total, drawn_of, drawn_times}
use Rattle.count_table.specs.Rule.{Counted}
use Rattle.count_table.specs.Opening.{opened}
use Rattle.count_table.specs.Plays.{after_draw, after_keep, after_release, seated, fresh, joined}
use Rattle.count_table.specs.Reading.{owned_by, held_by, IsReading, LeadsTo, StepsAreEvents}
use Rattle.count_table.specs.HoldsReading.{IsHoldsReading}
use Rattle.count_table.proofs.HoldsReading as holds
use Rattle.count_table.proofs.Totals.{times-append, total-set, total-push, total_at, total-le}
use Rattle.count_table.proofs.Sums.{put_same, put_other, none_either_way, pair_times-le, pair_times-append}
use Rattle.count_table.proofs.Facts.{few_next}

module _ {T : Type 0} where
  owned-le : (n c : ℕ) (v : View T) → owned_by n c v ≤ 1 * times c (drawn_of v)
  owned-le n c (Frame f) = let p = pair_times-le c n f.drawn in omega arith
  owned-le n c (Worker w) = elim (eqb w.number n) as (λ b. cond {A = ℕ} b (times c w.drawn) 0 ≤ 1 * times c w.drawn) [ true ↦ omega arith | false ↦ omega arith ]
  owned-le n c Spent = omega arith

  -- what a table says of chunks and buffers, of buffers alone
  holds_of_reading : {u : SetupValue} {s : StateValue} {n : ℕ} {cs : List ℕ} {f : FrameView T} {vs : List (View T)} → IsReading u n cs f vs s → IsHoldsReading u cs f vs s
  holds_of_reading r = record { opening_is = r.opening_is; few_seats = r.few_seats; counts_are = r.counts_are; holds_are = r.holds_are }

  module _ (u : SetupValue) (s : StateValue) (n : ℕ) (cs : List ℕ) (hs : List (Home (Option T))) (f : FrameView T) (vs : List (View T)) (h : Counted n cs hs f vs) (r : IsReading u n cs f vs s) where
    module _ (i : ℕ) (w : WorkerView T) (at : get_elem? vs i ≡ some (Worker w)) where
      is_worker : w.number < u.workers
      is_worker = let a = (h.fit i (Worker w) at).number_made in let b = r.few_seats in omega arith

      buffers : length f.opening ≡ length u.counts
      buffers = ap length r.opening_is

      turned : (g : View T → ℕ) (w' : WorkerView T) → g (Worker w') ≡ g (Worker w) → total g (set vs i (Worker w')) ≡ total g vs
      turned g w' same = let t = total-set g vs i (Worker w) (Worker w') at in omega arith

      -- a draw that finds the chunk n
      abbrev after : WorkerView T
      after = record w { drawn = w.drawn ++ n ∷ [] }

      module _ (more : n < chunks u) where
        taken_is : s.taken ≡ n
        taken_is = let t = r.taken in omega arith

        -- no view has the chunk n
        not_drawn : drawn_times n (Frame f ∷ vs) ≡ 0
        not_drawn = h.each_once n ∙ (let e : ltb n (min n (length f.parts)) ≡ false = le-ltb n (min n (length f.parts)) (omega arith) in rw e refl)

        new_owner : (k : ℕ) → total (owned_by k n) (Frame f ∷ set vs i (Worker after)) ≡ cond (eqb w.number k) 1 0
        new_owner k =
            let le = total-le (owned_by k n) (λ v. times n (drawn_of v)) 1 (Frame f ∷ vs) (λ j v e. owned-le k n v) in
            let z = not_drawn in
            let t = total-set (owned_by k n) vs i (Worker w) (Worker after) at in
            let old = total_at (owned_by k n) vs i (Worker w) at in
            let none = total_at (λ v. times n (drawn_of v)) vs i (Worker w) at in
            let a = times-append n w.drawn (n ∷ []) in
            let one : cond {A = ℕ} (eqb n n) 1 0 ≡ 1 = (let e : eqb n n ≡ true = eq-eqb n n refl in rw e refl) in
            let now : owned_by {T = T} k n (Worker after) ≡ cond (eqb w.number k) 1 0 = ap (λ (x : ℕ). cond {A = ℕ} (eqb w.number k) x 0) (let x : times n (w.drawn ++ n ∷ []) ≡ 1 = omega arith in x) in
            omega arith

        old_owner : (c k : ℕ) → c < n → total (owned_by k c) (Frame f ∷ set vs i (Worker after)) ≡ cond (eqb (s.owner c) k) 1 0
        old_owner c k lt =
            let a = times-append c w.drawn (n ∷ []) in
            let none : cond {A = ℕ} (eqb n c) 1 0 ≡ 0 = (let e : eqb n c ≡ false = ne_eqb n c (λ p. omega arith) in rw e refl) in
            let same : owned_by {T = T} k c (Worker after) ≡ owned_by {T = T} k c (Worker w) = ap (λ (x : ℕ). cond {A = ℕ} (eqb w.number k) x 0) (let x : times c (w.drawn ++ n ∷ []) ≡ times c w.drawn = omega arith in x) in
            let t = turned (owned_by k c) after same in
            let o = r.owners c k (let e = taken_is in omega arith) in omega arith

        drawn_owners : (c k : ℕ) → c < s.taken + 1 → total (owned_by k c) (Frame f ∷ set vs i (Worker after)) ≡ cond (eqb (put s.owner s.taken w.number c) k) 1 0
        drawn_owners c k lt = ⊎_elim
            (λ (e : c ≡ s.taken). subst (λ (x : ℕ). total (owned_by {T = T} k x) (Frame f ∷ set vs i (Worker after)) ≡ cond (eqb (put s.owner s.taken w.number x) k) 1 0) (sym e)
            (ap (λ (x : ℕ). total (owned_by {T = T} k x) (Frame f ∷ set vs i (Worker after))) taken_is ∙ new_owner k ∙ ap (λ (x : ℕ). cond {A = ℕ} (eqb x k) 1 0) (sym (put_same s.owner s.taken w.number))))
            (λ (ne : c ≢ s.taken). old_owner c k (let e = taken_is in omega arith) ∙ ap (λ (x : ℕ). cond {A = ℕ} (eqb x k) 1 0) (sym (put_other s.owner s.taken w.number c ne)))
            (cases_eq c s.taken)

        drawn_reading : IsReading u (n + 1) cs f (set vs i (Worker after)) (record s { taken = s.taken + 1; owner = put s.owner s.taken w.number; next = put s.next s.taken (first u s.taken); stopped = put s.stopped s.taken false })
        drawn_reading = record {
          chunks_are = r.chunks_are;
          opening_is = r.opening_is;
          few_seats = r.few_seats;
          taken = let e = taken_is in omega arith;
          owners = drawn_owners;
          counts_are = r.counts_are;
          holds_are = λ k b lt lt'. r.holds_are k b lt lt' ∙ sym (turned (held_by k b) after refl);
        }

      next_small : (n + 1) % 2 ^ 64 ≡ n + 1
      next_small = let few = few_next n cs hs f vs h in mod-eq_of_lt (omega arith)

      parts_are : length w.parts ≡ chunks u
      parts_are = ap (λ (p : List T). length p) (h.fit i (Worker w) at).same_parts ∙ r.chunks_are

      draw_is_event : n < chunks u → ((c : ℕ) → ¬ Works u s w.number c) → LeadsTo u s (Draw w.number) ((n + 1) % 2 ^ 64) cs f (set vs i (Worker (after_draw w n)))
      draw_is_event more idle =
          let lt : ltb n (length w.parts) ≡ true = lt-ltb n (length w.parts) (let p = parts_are in omega arith) in
          let drew : after_draw w n ≡ after = ap (λ (b : Bool). cond b after (record w { ended = true })) lt in
          let s' : StateValue = record s { taken = s.taken + 1; owner = put s.owner s.taken w.number; next = put s.next s.taken (first u s.taken); stopped = put s.stopped s.taken false } in (
            s',
            (is_worker, idle, (let e = taken_is more in omega arith), refl),
            subst (λ (m : ℕ). IsReading u m cs f (set vs i (Worker (after_draw w n))) s') (sym next_small)
                (subst (λ (v : WorkerView T). IsReading u (n + 1) cs f (set vs i (Worker v)) s') (sym drew) (drawn_reading more)),
          )

      none_is_no_event : chunks u ≤ n → IsReading u ((n + 1) % 2 ^ 64) cs f (set vs i (Worker (after_draw w n))) s
      none_is_no_event all_taken =
          let ge : ltb n (length w.parts) ≡ false = le-ltb n (length w.parts) (let p = parts_are in omega arith) in
          let drew : after_draw w n ≡ record w { ended = true } = ap (λ (b : Bool). cond b after (record w { ended = true })) ge in
          subst (λ (m : ℕ). IsReading u m cs f (set vs i (Worker (after_draw w n))) s) (sym next_small)
          (subst (λ (v : WorkerView T). IsReading u (n + 1) cs f (set vs i (Worker v)) s) (sym drew) (record {
            chunks_are = r.chunks_are;
            opening_is = r.opening_is;
            few_seats = r.few_seats;
            taken = let t = r.taken in omega arith;
            owners = λ c k lt. ap (λ (x : ℕ). owned_by {T = T} k c (Frame f) + x) (turned (owned_by k c) (record w { ended = true }) refl) ∙ r.owners c k lt;
            counts_are = r.counts_are;
            holds_are = λ k b lt lt'. r.holds_are k b lt lt' ∙ sym (turned (held_by k b) (record w { ended = true }) refl);
          }))

      -- the table as before, where the holds are those of another state whose chunks are the same
      counted_again : (cs' : List ℕ) (w' : WorkerView T) (s' : StateValue) → w'.drawn ≡ w.drawn → w'.number ≡ w.number → s'.taken ≡ s.taken → s'.owner ≡ s.owner
          → IsHoldsReading u cs' f (set vs i (Worker w')) s' → IsReading u n cs' f (set vs i (Worker w')) s'
      counted_again cs' w' s' drew named took owned holds = record {
        chunks_are = r.chunks_are;
        opening_is = r.opening_is;
        few_seats = r.few_seats;
        taken = took ∙ r.taken;
        owners = λ c k l.
            ap (λ (z : ℕ). owned_by {T = T} k c (Frame f) + z) (turned (owned_by k c) w' (λ j. cond {A = ℕ} (eqb (named j) k) (times c (drew j)) 0))
            ∙ r.owners c k (let e = took in omega arith) ∙ ap (λ (g : ℕ → ℕ). cond {A = ℕ} (eqb (g c) k) 1 0) (sym owned);
        counts_are = holds.counts_are;
        holds_are = holds.holds_are;
      }

      keep_is_event : (b : ℕ) → b < length f.opening → length w.holds < MOST_HOLDS → LeadsTo u s (Keep w.number b) n (set cs b ((get_or cs b 0 + 1) % 2 ^ 64)) f (set vs i (Worker (after_keep w b)))
      keep_is_event b lt room =
          let e = holds.keep_is_event u s n cs hs f vs h (holds_of_reading r) i w at b lt room in
          (e.0, e.1, counted_again (set cs b ((get_or cs b 0 + 1) % 2 ^ 64)) (after_keep w b) e.0 refl refl (ap (λ (x : StateValue). x.taken) e.1.3) (ap (λ (x : StateValue). x.owner) e.1.3) e.2)

      release_is_event : (b : ℕ) → b < length f.opening → 0 < times b w.holds → LeadsTo u s (Release w.number b) n (set cs b ((get_or cs b 0 + (2 ^ 64 - 1)) % 2 ^ 64)) f (set vs i (Worker (after_release w b)))
      release_is_event b lt held =
          let e = holds.release_is_event u s n cs hs f vs h (holds_of_reading r) i w at b lt held in
          (e.0, e.1, counted_again (set cs b ((get_or cs b 0 + (2 ^ 64 - 1)) % 2 ^ 64)) (after_release w b) e.0 refl refl (ap (λ (x : StateValue). x.taken) e.1.3) (ap (λ (x : StateValue). x.owner) e.1.3) e.2)

      look_is_no_event : (b : ℕ) → IsReading u n (set cs b (get_or cs b 0)) f (set vs i (Worker w)) s
      look_is_no_event b =
          subst (λ (k : List ℕ). IsReading u n k f (set vs i (Worker w)) s) (sym (set-get_or cs b 0))
          (subst (λ (v : List (View T)). IsReading u n cs f v s) (sym (set_again vs i (Worker w) at)) r)

      -- the seat's view goes on under a new seat
      move_is_no_event : IsReading u n cs f (set vs i Spent ++ Worker w ∷ []) s
      move_is_no_event = record {
        chunks_are = r.chunks_are;
        opening_is = r.opening_is;
        few_seats = r.few_seats;
        taken = r.taken;
        owners = λ c k lt. ap (λ (x : ℕ). owned_by {T = T} k c (Frame f) + x) (moved (owned_by k c) refl) ∙ r.owners c k lt;
        counts_are = r.counts_are;
        holds_are = λ k b lt lt'. r.holds_are k b lt lt' ∙ sym (moved (held_by k b) refl);
      }
        where
          moved : (g : View T → ℕ) → g Spent ≡ 0 → total g (set vs i Spent ++ Worker w ∷ []) ≡ total g vs
          moved g z = let t = total-set g vs i (Worker w) Spent at in let p = total-push g (set vs i Spent) (Worker w) in omega arith

      -- the frame takes over what the seat drew
      join_is_no_event : w.holds ≡ [] → IsReading u n cs (joined f w) (set vs i Spent) s
      join_is_no_event none_held = record {
        chunks_are = r.chunks_are;
        opening_is = r.opening_is;
        few_seats = r.few_seats;
        taken = r.taken;
        owners = λ c k lt.
            let t = total-set (owned_by k c) vs i (Worker w) Spent at in
            let a = pair_times-append c k f.drawn w.drawn w.number in
            let o = r.owners c k lt in omega arith;
        counts_are = r.counts_are;
        holds_are = λ k b lt lt'.
            let t = total-set (held_by k b) vs i (Worker w) Spent at in
            let z : held_by {T = T} k b (Worker w) ≡ 0 = ap (λ (l : List ℕ). cond {A = ℕ} (eqb w.number k) (times b l) 0) none_held ∙ none_either_way (eqb w.number k) in
            let o = r.holds_are k b lt lt' in omega arith;
      }

    -- a new seat
    seat_is_no_event : f.made < u.workers → IsReading u n cs (seated f) (vs ++ Worker (fresh f) ∷ []) s
    seat_is_no_event room = record {
      chunks_are = r.chunks_are;
      opening_is = r.opening_is;
      few_seats = omega arith;
      taken = r.taken;
      owners = λ c k lt. let t = total-push (owned_by k c) vs (Worker (fresh f)) in let z = none_either_way (eqb f.made k) in let o = r.owners c k lt in omega arith;
      counts_are = r.counts_are;
      holds_are = λ k b lt lt'. let t = total-push (held_by k b) vs (Worker (fresh f)) in let z = none_either_way (eqb f.made k) in let o = r.holds_are k b lt lt' in omega arith;
    }

  -- a state with the same chunks taken, owners, counts and holds
  same_reading : (u : SetupValue) (s s' : StateValue) (n : ℕ) (cs : List ℕ) (f : FrameView T) (vs : List (View T)) → IsReading u n cs f vs s → (s'.taken ≡ s.taken) × (s'.owner ≡ s.owner) × (s'.count ≡ s.count) × (s'.holds ≡ s.holds) → IsReading u n cs f vs s'
  same_reading u s s' n cs f vs r same = record {
    chunks_are = r.chunks_are;
    opening_is = r.opening_is;
    few_seats = r.few_seats;
    taken = same.0 ∙ r.taken;
    owners = λ c k lt. r.owners c k (let e = same.0 in omega arith) ∙ ap (λ (g : ℕ → ℕ). cond {A = ℕ} (eqb (g c) k) 1 0) (sym same.1);
    counts_are = λ b lt. ap (λ (g : ℕ → ℕ). g b) same.2 ∙ r.counts_are b lt;
    holds_are = λ k b lt lt'. ap (λ (g : ℕ → ℕ → ℕ). g k b) same.3 ∙ r.holds_are k b lt lt';
  }

  -- the opening
  pub opens_at_opening : (u : SetupValue) (parts : List T) → length parts ≡ chunks u → IsReading u 0 u.counts (opened u.counts parts) [] (opened_state u)
  opens_at_opening u parts chunks_are = record {
    chunks_are = chunks_are;
    opening_is = refl;
    few_seats = omega arith;
    taken = omega arith;
    owners = λ c k lt. absurd (omega arith);
    counts_are = λ b lt. refl;
    holds_are = λ k b lt lt'. refl;
  }

  pub steps_are_events : (u : SetupValue) (s : StateValue) (n : ℕ) (cs : List ℕ) (hs : List (Home (Option T))) (f : FrameView T) (vs : List (View T)) → Counted n cs hs f vs → IsReading u n cs f vs s → StepsAreEvents u s n cs f vs
  steps_are_events u s n cs hs f vs h r = record {
    draw = draw_is_event u s n cs hs f vs h r;
    draw_none = none_is_no_event u s n cs hs f vs h r;
    keep = λ i w b at lt. keep_is_event u s n cs hs f vs h r i w at b (let e = (h.fit i (Worker w) at).same_buffers in omega arith);
    release = λ i w b at held. release_is_event u s n cs hs f vs h r i w at b ((h.fit i (Worker w) at).holds_within b held) held;
    look = λ i w b at. look_is_no_event u s n cs hs f vs h r i w at b;
    seat = seat_is_no_event u s n cs hs f vs h r;
    move = move_is_no_event u s n cs hs f vs h r;
    join = join_is_no_event u s n cs hs f vs h r;
    write = λ k s' st. let e = st.1.4 in same_reading u s s' n cs f vs r (ap (λ (x : StateValue). x.taken) e, ap (λ (x : StateValue). x.owner) e, ap (λ (x : StateValue). x.count) e, ap (λ (x : StateValue). x.holds) e);
    stop = λ k s' st. let e = st.1.4 in same_reading u s s' n cs f vs r (ap (λ (x : StateValue). x.taken) e, ap (λ (x : StateValue). x.owner) e, ap (λ (x : StateValue). x.count) e, ap (λ (x : StateValue). x.holds) e);
  }
