-- Each kind of step on a table that no chunk is drawn from is an event of the phase machine, or leaves its state as it is.
use Rattle.std.proofs.Common.{◌≡◌, ◌≢◌, ℕ, ◌+◌, ◌-◌, ◌%◌, ◌^◌, ◌<◌, Bool, true, false, cond, eqb, List, [], ◌∷◌, ◌++◌, length, set, get_or, sym, refl, ap, ◌∙◌, subst, arith, ⊎_elim, get_or-set_same, get_or-set_other}
use Rattle.std.proofs.lemmas.Bool.{ne_eqb, eq-eqb, cases_eq}
use Rattle.std.proofs.lemmas.List.{set-get_or}
use mathlib.Core.Option.{some, Option as Home}
use lib.ListN.{get_elem?}
use Rattle.atomic_table.proofs.Lists.{set_again}
use Rattle.std.specs.declared.option.Option.{Option}
use Rattle.wl_core.specs.declared.events.Event.TheVariants.{Keep, Release}
use Rattle.wl_core.specs.declared.limits.TheConstants.{MOST_HOLDS}
use Rattle.wl_core.specs.Machine.{SetupValue, StateValue, put, holds_of as all_holds, opened as opened_state}
use Rattle.count_table.specs.declared.view.FrameView.{FrameView}
use Rattle.count_table.specs.declared.view.WorkerView.{WorkerView}
use Rattle.count_table.specs.declared.view.View.{View}
use Rattle.count_table.specs.declared.view.View.TheVariants.{Frame, Worker, Spent}
use Rattle.count_table.specs.Views.{times, without, total, has_number}
use Rattle.count_table.specs.Rule.{Counted}
use Rattle.count_table.specs.Opening.{opened}
use Rattle.count_table.specs.Plays.{after_keep, after_release, seated, fresh, joined}
use Rattle.count_table.specs.Reading.{held_by}
use Rattle.count_table.specs.HoldsReading.{IsHoldsReading, HoldsLeadTo, HoldsAreEvents}
use Rattle.count_table.proofs.Totals.{times-without, total-set, total-push}
use Rattle.count_table.proofs.Sums.{put_same, put_other, none_either_way, sum-same, sum-times, total-only}
use Rattle.count_table.proofs.Facts.{few_holds, held_twice}

module _ {T : Type 0} where
  -- a view of another worker has none of its holds
  held-none : (n b : ℕ) (v : View T) → has_number n v ≡ 0 → held_by n b v ≡ 0
  held-none n b (Frame f) z = refl
  held-none n b (Worker w) z = held_at (eqb w.number n) z
    where
      held_at : (e : Bool) → cond {A = ℕ} e 1 0 ≡ 0 → cond {A = ℕ} e (times b w.holds) 0 ≡ 0
      held_at true z = absurd (omega arith)
      held_at false z = refl
  held-none n b Spent z = refl

  module _ (u : SetupValue) (s : StateValue) (n : ℕ) (cs : List ℕ) (hs : List (Home (Option T))) (f : FrameView T) (vs : List (View T)) (h : Counted n cs hs f vs) (r : IsHoldsReading u cs f vs s) where
    module _ (i : ℕ) (w : WorkerView T) (at : get_elem? vs i ≡ some (Worker w)) where
      is_worker : w.number < u.workers
      is_worker = let a = (h.fit i (Worker w) at).number_made in let b = r.few_seats in omega arith

      buffers : length f.opening ≡ length u.counts
      buffers = ap length r.opening_is

      turned : (g : View T → ℕ) (w' : WorkerView T) → g (Worker w') ≡ g (Worker w) → total g (set vs i (Worker w')) ≡ total g vs
      turned g w' same = let t = total-set g vs i (Worker w) (Worker w') at in omega arith

      -- what the worker holds stands in its own view alone
      own_holds : (b : ℕ) → total (held_by w.number b) vs ≡ times b w.holds
      own_holds b =
          let one : has_number {T = T} w.number (Worker w) ≡ 1 = (let e : eqb w.number w.number ≡ true = eq-eqb w.number w.number refl in rw e refl) in
          let here : held_by {T = T} w.number b (Worker w) ≡ times b w.holds = (let e : eqb w.number w.number ≡ true = eq-eqb w.number w.number refl in rw e refl) in
          total-only (held_by w.number b) (has_number w.number) vs i (Worker w) at (held-none w.number b) (omega arith) (h.one_each w.number) ∙ here

      state_holds : (b : ℕ) → b < length u.counts → s.holds w.number b ≡ times b w.holds
      state_holds b lt = r.holds_are w.number b is_worker lt ∙ own_holds b

      few_state_holds : length w.holds < MOST_HOLDS → all_holds u s w.number < MOST_HOLDS
      few_state_holds room =
          let a = sum-same (s.holds w.number) (λ b. times b w.holds) (length u.counts) state_holds in
          let b = sum-times w.holds (length u.counts) (λ b has. let l = (h.fit i (Worker w) at).holds_within b has in let e = buffers in omega arith) in omega arith

      module _ (b : ℕ) (lt : b < length f.opening) where
        in_setup : b < length u.counts
        in_setup = let e = buffers in omega arith

        -- count b becomes x, and the worker's holds of b become y
        module _ (x y : ℕ) (held : List ℕ) (here : y ≡ times b held) (there : (c : ℕ) → c ≢ b → times c held ≡ times c w.holds) where
          abbrev rest : WorkerView T
          rest = record w { holds = held }

          own_held : (c : ℕ) → c < length u.counts → put (s.holds w.number) b y c ≡ times c held
          own_held c lt' = ⊎_elim
              (λ (e : c ≡ b). subst (λ (k : ℕ). put (s.holds w.number) b y k ≡ times k held) (sym e) (put_same (s.holds w.number) b y ∙ here))
              (λ (ne : c ≢ b). put_other (s.holds w.number) b y c ne ∙ state_holds c lt' ∙ sym (there c ne))
              (cases_eq c b)

          own_after : (c : ℕ) → total (held_by w.number c) (set vs i (Worker rest)) ≡ times c held
          own_after c =
              let e : eqb w.number w.number ≡ true = eq-eqb w.number w.number refl in
              let old : held_by {T = T} w.number c (Worker w) ≡ times c w.holds = rw e refl in
              let new : held_by {T = T} w.number c (Worker rest) ≡ times c held = rw e refl in
              let t = total-set (held_by w.number c) vs i (Worker w) (Worker rest) at in let o = own_holds c in omega arith

          others_after : (k c : ℕ) → k ≢ w.number → total (held_by k c) (set vs i (Worker rest)) ≡ total (held_by k c) vs
          others_after k c ne =
              let e : eqb w.number k ≡ false = ne_eqb w.number k (λ p. ne (sym p)) in
              let old : held_by {T = T} k c (Worker w) ≡ 0 = rw e refl in
              let new : held_by {T = T} k c (Worker rest) ≡ 0 = rw e refl in
              turned (held_by k c) rest (new ∙ sym old)

          held_after : (k c : ℕ) → k < u.workers → c < length u.counts → put s.holds w.number (put (s.holds w.number) b y) k c ≡ total (held_by k c) (set vs i (Worker rest))
          held_after k c ltk ltc = ⊎_elim
              (λ (e : k ≡ w.number). subst (λ (j : ℕ). put s.holds w.number (put (s.holds w.number) b y) j c ≡ total (held_by {T = T} j c) (set vs i (Worker rest))) (sym e)
              (ap (λ (g : ℕ → ℕ). g c) (put_same s.holds w.number (put (s.holds w.number) b y)) ∙ own_held c ltc ∙ sym (own_after c)))
              (λ (ne : k ≢ w.number). ap (λ (g : ℕ → ℕ). g c) (put_other s.holds w.number (put (s.holds w.number) b y) k ne) ∙ r.holds_are k c ltk ltc ∙ sym (others_after k c ne))
              (cases_eq k w.number)

          count_after : (c : ℕ) → c < length u.counts → put s.count b x c ≡ get_or (set cs b x) c 0
          count_after c ltc = ⊎_elim
              (λ (e : c ≡ b). subst (λ (k : ℕ). put s.count b x k ≡ get_or (set cs b x) k 0) (sym e) (put_same s.count b x ∙ sym (get_or-set_same cs b x 0 (let l = h.buffers in omega arith))))
              (λ (ne : c ≢ b). put_other s.count b x c ne ∙ r.counts_are c ltc ∙ sym (get_or-set_other cs b c x 0 ne))
              (cases_eq c b)

          recounted : IsHoldsReading u (set cs b x) f (set vs i (Worker rest)) (record s { count = put s.count b x; holds = put s.holds w.number (put (s.holds w.number) b y) })
          recounted = record { opening_is = r.opening_is; few_seats = r.few_seats; counts_are = count_after; holds_are = held_after }

        count_small : get_or cs b 0 < 2 ^ 64 - 1
        count_small = let few = few_holds n cs hs f vs h b in let c = h.count_is b lt in let o = h.opened b 0 lt in omega arith

        abbrev pub kept_state : StateValue
        kept_state = record s { count = put s.count b (s.count b + 1); holds = put s.holds w.number (put (s.holds w.number) b (s.holds w.number b + 1)) }

        pub keep_is_event : length w.holds < MOST_HOLDS → HoldsLeadTo u s (Keep w.number b) (set cs b ((get_or cs b 0 + 1) % 2 ^ 64)) f (set vs i (Worker (after_keep w b)))
        keep_is_event room =
            let count = r.counts_are b in_setup in
            let x : s.count b + 1 ≡ (get_or cs b 0 + 1) % 2 ^ 64 = (let c = count_small in omega arith) in (
              kept_state,
              (is_worker, in_setup, few_state_holds room, refl),
              subst (λ (m : ℕ). IsHoldsReading u (set cs b m) f (set vs i (Worker (after_keep w b))) kept_state) x
                  (recounted (s.count b + 1) (s.holds w.number b + 1) (b ∷ w.holds)
                  (let e : eqb b b ≡ true = eq-eqb b b refl in let one : cond {A = ℕ} (eqb b b) 1 0 ≡ 1 = rw e refl in let o = state_holds b in_setup in omega arith)
                  (λ c ne. let e : eqb b c ≡ false = ne_eqb b c (λ p. ne (sym p)) in let z : cond {A = ℕ} (eqb b c) 1 0 ≡ 0 = rw e refl in omega arith)),
            )

        abbrev pub released_state : StateValue
        released_state = record s { count = put s.count b (s.count b - 1); holds = put s.holds w.number (put (s.holds w.number) b (s.holds w.number b - 1)) }

        pub release_is_event : 0 < times b w.holds → HoldsLeadTo u s (Release w.number b) (set cs b ((get_or cs b 0 + (2 ^ 64 - 1)) % 2 ^ 64)) f (set vs i (Worker (after_release w b)))
        release_is_event held =
            let count = r.counts_are b in_setup in
            let two = held_twice n cs hs f vs h i w at b held in
            let x : s.count b - 1 ≡ (get_or cs b 0 + (2 ^ 64 - 1)) % 2 ^ 64 = (let c = count_small in omega arith) in (
              released_state,
              (is_worker, in_setup, (let o = state_holds b in_setup in omega arith), refl),
              subst (λ (m : ℕ). IsHoldsReading u (set cs b m) f (set vs i (Worker (after_release w b))) released_state) x
                  (recounted (s.count b - 1) (s.holds w.number b - 1) (without b w.holds)
                  (let t = times-without b b w.holds held in let e : eqb b b ≡ true = eq-eqb b b refl in let one : cond {A = ℕ} (eqb b b) 1 0 ≡ 1 = rw e refl in let o = state_holds b in_setup in omega arith)
                  (λ c ne. let t = times-without b c w.holds held in let e : eqb b c ≡ false = ne_eqb b c (λ p. ne (sym p)) in let z : cond {A = ℕ} (eqb b c) 1 0 ≡ 0 = rw e refl in omega arith)),
            )

      pub look_is_no_event : (b : ℕ) → IsHoldsReading u (set cs b (get_or cs b 0)) f (set vs i (Worker w)) s
      look_is_no_event b =
          subst (λ (k : List ℕ). IsHoldsReading u k f (set vs i (Worker w)) s) (sym (set-get_or cs b 0))
          (subst (λ (v : List (View T)). IsHoldsReading u cs f v s) (sym (set_again vs i (Worker w) at)) r)

      -- the seat's view goes on under a new seat
      pub move_is_no_event : IsHoldsReading u cs f (set vs i Spent ++ Worker w ∷ []) s
      move_is_no_event = record {
        opening_is = r.opening_is;
        few_seats = r.few_seats;
        counts_are = r.counts_are;
        holds_are = λ k b lt lt'. r.holds_are k b lt lt' ∙ sym (moved (held_by k b) refl);
      }
        where
          moved : (g : View T → ℕ) → g Spent ≡ 0 → total g (set vs i Spent ++ Worker w ∷ []) ≡ total g vs
          moved g z = let t = total-set g vs i (Worker w) Spent at in let p = total-push g (set vs i Spent) (Worker w) in omega arith

      -- the frame takes over what the seat drew
      pub join_is_no_event : w.holds ≡ [] → IsHoldsReading u cs (joined f w) (set vs i Spent) s
      join_is_no_event none_held = record {
        opening_is = r.opening_is;
        few_seats = r.few_seats;
        counts_are = r.counts_are;
        holds_are = λ k b lt lt'.
            let t = total-set (held_by k b) vs i (Worker w) Spent at in
            let z : held_by {T = T} k b (Worker w) ≡ 0 = ap (λ (l : List ℕ). cond {A = ℕ} (eqb w.number k) (times b l) 0) none_held ∙ none_either_way (eqb w.number k) in
            let o = r.holds_are k b lt lt' in omega arith;
      }

    -- a new seat
    pub seat_is_no_event : f.made < u.workers → IsHoldsReading u cs (seated f) (vs ++ Worker (fresh f) ∷ []) s
    seat_is_no_event room = record {
      opening_is = r.opening_is;
      few_seats = omega arith;
      counts_are = r.counts_are;
      holds_are = λ k b lt lt'. let t = total-push (held_by k b) vs (Worker (fresh f)) in let z = none_either_way (eqb f.made k) in let o = r.holds_are k b lt lt' in omega arith;
    }

  -- a state with the same counts and holds
  same_holds : (u : SetupValue) (s s' : StateValue) (cs : List ℕ) (f : FrameView T) (vs : List (View T)) → IsHoldsReading u cs f vs s → (s'.count ≡ s.count) × (s'.holds ≡ s.holds) → IsHoldsReading u cs f vs s'
  same_holds u s s' cs f vs r same = record {
    opening_is = r.opening_is;
    few_seats = r.few_seats;
    counts_are = λ b lt. ap (λ (g : ℕ → ℕ). g b) same.0 ∙ r.counts_are b lt;
    holds_are = λ k b lt lt'. ap (λ (g : ℕ → ℕ → ℕ). g k b) same.1 ∙ r.holds_are k b lt lt';
  }

  -- the opening
  pub holds_at_opening : (u : SetupValue) (parts : List T) → IsHoldsReading u u.counts (opened u.counts parts) [] (opened_state u)
  holds_at_opening u parts = record { opening_is = refl; few_seats = omega arith; counts_are = λ b lt. refl; holds_are = λ k b lt lt'. refl }

  pub holds_are_events : (u : SetupValue) (s : StateValue) (n : ℕ) (cs : List ℕ) (hs : List (Home (Option T))) (f : FrameView T) (vs : List (View T)) → Counted n cs hs f vs → IsHoldsReading u cs f vs s → HoldsAreEvents u s cs f vs
  holds_are_events u s n cs hs f vs h r = record {
    keep = λ i w b at lt. keep_is_event u s n cs hs f vs h r i w at b (let e = (h.fit i (Worker w) at).same_buffers in omega arith);
    release = λ i w b at held. release_is_event u s n cs hs f vs h r i w at b ((h.fit i (Worker w) at).holds_within b held) held;
    look = λ i w b at. look_is_no_event u s n cs hs f vs h r i w at b;
    seat = seat_is_no_event u s n cs hs f vs h r;
    move = move_is_no_event u s n cs hs f vs h r;
    join = join_is_no_event u s n cs hs f vs h r;
    draw = λ k s' st. let e = st.3 in same_holds u s s' cs f vs r (ap (λ (x : StateValue). x.count) e, ap (λ (x : StateValue). x.holds) e);
    write = λ k s' st. let e = st.1.4 in same_holds u s s' cs f vs r (ap (λ (x : StateValue). x.count) e, ap (λ (x : StateValue). x.holds) e);
    stop = λ k s' st. let e = st.1.4 in same_holds u s s' cs f vs r (ap (λ (x : StateValue). x.count) e, ap (λ (x : StateValue). x.holds) e);
  }
