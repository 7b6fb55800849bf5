-- Each action keeps the table's rule.
use Rattle.std.proofs.Common.{◌≡◌, ◌≢◌, ℕ, zero, suc, ◌+◌, ◌-◌, ◌%◌, ◌^◌, ◌<◌, ◌≤◌, Bool, true, false, cond, ltb, eqb, List, [], ◌∷◌, ◌++◌, length, set, get_or, refl, sym, ap, subst, ◌∙◌, arith, add-one}
use Rattle.std.proofs.lemmas.Bool.{eq-eqb}
use Rattle.std.specs.Prelude.{slice_get}
use mathlib.Core.Option.{none, some, Option as Home}
use lib.ListN.{get_elem?}
use Rattle.std.specs.declared.option.Option.{Option}
use Rattle.atomic_table.specs.Table.{Act, carried_after, chain, gives, homes_after, keeps, stepped, takes}
use Rattle.atomic_table.proofs.Lists.{set_else}
use Rattle.count_table.specs.declared.view.FrameView.{FrameView}
use Rattle.count_table.specs.declared.view.WorkerView.{WorkerView}
use Rattle.count_table.specs.declared.view.View.{View}
use Rattle.count_table.specs.declared.view.View.TheVariants.{Frame, Worker, Spent}
use Rattle.count_table.specs.Views.{drawn_of, drawn_times, times}
use Rattle.count_table.specs.Rule.{Counted, Keeps, Ruled}
use Rattle.count_table.specs.Plays.{Draws, Keeping, Looking, Releasing, Seat, after_draw, after_keep, after_release}
use Rattle.count_table.proofs.Totals.{times-append, total-set, total_at}
use Rattle.count_table.proofs.Facts.{few_holds, few_next, frame_no_worker}
use Rattle.count_table.proofs.Drawing.{draws}
use Rattle.count_table.proofs.Counting.{keeps_one, looks_at, releases_one}
use Rattle.count_table.proofs.Sitting.{comes, moves, sits}
use Rattle.phase_schedules.specs.Interleavings.{DrawBy, IsOneAct, IsSeat, JoinSeat, KeepBy, LookBy, MakeSeat, MoveSeat, ReleaseBy, TableAction, TableLeads, TakeBy, Turns}
use Rattle.phase_schedules.specs.Moments.{Table}

abbrev Slots : Type 0 → Type 0
Slots T = List (ℕ × Option T)

abbrev first_slot : {T : Type 0} → List (ℕ × Option T) → ℕ
first_slot [] = 0
first_slot (x ∷ xs) = x.0

module _ {T : Type 0} where
  -- ---- words are small

  pub next_small : (words : List ℕ) (homes : List (Home (Option T))) (views : List (View T)) → Keeps words homes views → get_or words 0 0 < 18446744073709551616
  next_small [] hs views k = absurd k
  next_small (n ∷ cs) hs [] k = absurd k
  next_small (n ∷ cs) hs (Worker w ∷ vs) k = absurd k
  next_small (n ∷ cs) hs (Spent ∷ vs) k = absurd k
  next_small (n ∷ cs) hs (Frame f ∷ vs) k = let few = few_next n cs hs f vs k in omega arith

  count_small_at : (words : List ℕ) (homes : List (Home (Option T))) (views : List (View T)) (id : ℕ) (w : WorkerView T) (b : ℕ) → Keeps words homes views → get_elem? views id ≡ some (Worker w) → b < w.buffers → get_or words (suc b) 0 < 18446744073709551616
  count_small_at [] hs views id w b k at lt = absurd k
  count_small_at (n ∷ cs) hs [] id w b k at lt = absurd k
  count_small_at (n ∷ cs) hs (Worker u ∷ vs) id w b k at lt = absurd k
  count_small_at (n ∷ cs) hs (Spent ∷ vs) id w b k at lt = absurd k
  count_small_at (n ∷ cs) hs (Frame f ∷ vs) zero w b k at lt = absurd (frame_no_worker f w at)
  count_small_at (n ∷ cs) hs (Frame f ∷ vs) (suc i) w b k at lt =
      let within : b < length f.opening = (let e = (k.fit i (Worker w) at).same_buffers in omega arith) in
      let few = few_holds n cs hs f vs k b in let c = k.count_is b within in let o = k.opened b 0 within in omega arith

  count_small : (s : Table T) (id : ℕ) (w : WorkerView T) (b : ℕ) → Ruled s → IsSeat s id w → b < w.buffers → get_or s.words (b + 1) 0 < 18446744073709551616
  count_small s id w b ruled at lt = subst (λ (i : ℕ). get_or s.words i 0 < 18446744073709551616) (sym (add-one b)) (count_small_at s.words s.homes s.views id w b ruled at lt)

  -- what a worker holds is in the phase
  held_within : (words : List ℕ) (homes : List (Home (Option T))) (views : List (View T)) (id : ℕ) (w : WorkerView T) (b : ℕ) → Keeps words homes views → get_elem? views id ≡ some (Worker w) → 0 < times b w.holds → b < w.buffers
  held_within [] hs views id w b k at has = absurd k
  held_within (n ∷ cs) hs [] id w b k at has = absurd k
  held_within (n ∷ cs) hs (Worker u ∷ vs) id w b k at has = absurd k
  held_within (n ∷ cs) hs (Spent ∷ vs) id w b k at has = absurd k
  held_within (n ∷ cs) hs (Frame f ∷ vs) zero w b k at has = absurd (frame_no_worker f w at)
  held_within (n ∷ cs) hs (Frame f ∷ vs) (suc i) w b k at has = let l = (k.fit i (Worker w) at).holds_within b has in let e = (k.fit i (Worker w) at).same_buffers in omega arith

  in_phase : (s : Table T) (id : ℕ) (w : WorkerView T) (b : ℕ) → Ruled s → IsSeat s id w → 0 < times b w.holds → b < w.buffers
  in_phase s id w b ruled at has = held_within s.words s.homes s.views id w b ruled at has

  -- ---- slots

  -- an act by which a seat has the slots that it had takes none
  no_slot : (homes : List (Home (Option T))) (held : Slots T) (act : Act (Option T)) → IsOneAct act → carried_after held act ≡ held → homes_after homes held act ≡ homes
  no_slot homes held keeps one e = refl
  no_slot homes held (takes k y) one e = absurd (let l : suc (length held) ≡ length held = ap length e in omega arith)
  no_slot homes held gives one e = absurd one
  no_slot homes held (chain a b) one e = absurd one

  -- an act by which a seat has the slot n too takes no other
  other_slots : (homes : List (Home (Option T))) (held : Slots T) (act : Act (Option T)) (n : ℕ) (y : Option T) → IsOneAct act → carried_after held act ≡ (n, y) ∷ held
      → (k : ℕ) → k ≢ n → get_elem? (homes_after homes held act) k ≡ get_elem? homes k
  other_slots homes held keeps n y one e k ne = refl
  other_slots homes held (takes j z) n y one e k ne = let same : j ≡ n = ap first_slot e in set_else homes j k none (λ q. ne (q ∙ same))
  other_slots homes held gives n y one e k ne = absurd one
  other_slots homes held (chain a b) n y one e k ne = absurd one

  -- a slot that no view has a claim to is as it was
  abbrev SlotsStay : List (Home (Option T)) → List (Home (Option T)) → WorkerView T → WorkerView T → Type 0
  SlotsStay before after w w' = (k : ℕ) → times k w'.drawn ≡ 0 → (times k w.drawn ≡ 0) × (get_elem? after k ≡ get_elem? before k)

  module _ (n : ℕ) (cs : List ℕ) (before : List (Home (Option T))) (f : FrameView T) (vs : List (View T)) (i : ℕ) (w w' : WorkerView T) (h : Counted n cs before f vs) (at : get_elem? vs i ≡ some (Worker w)) where
    -- the rule, with the slots as this act leaves them
    rehomed : (m : ℕ) (ds : List ℕ) (other after : List (Home (Option T))) → Counted m ds other f (set vs i (Worker w')) → SlotsStay before after w w' → Counted m ds after f (set vs i (Worker w'))
    rehomed m ds other after k stay = record {
      next_is = k.next_is;
      few_nones = k.few_nones;
      each_once = k.each_once;
      buffers = k.buffers;
      count_is = k.count_is;
      opened = k.opened;
      few_seats = k.few_seats;
      few_chunks = k.few_chunks;
      drawn_by = k.drawn_by;
      out_is = k.out_is;
      one_each = k.one_each;
      fit = k.fit;
      parts_home = λ x lt none_has.
          let t = total-set (λ v. times x (drawn_of v)) vs i (Worker w) (Worker w') at in
          let a = total_at (λ v. times x (drawn_of v)) vs i (Worker w) at in
          let new : times x w'.drawn ≡ 0 = omega arith in
          let o = stay x new in
          let old = o.0 in
          let none_had : drawn_times x (Frame f ∷ vs) ≡ 0 = omega arith in
          o.1 ∙ h.parts_home x lt none_had;
    }

  rehome : (words : List ℕ) (before : List (Home (Option T))) (views : List (View T)) (id : ℕ) (w w' : WorkerView T) (i x : ℕ) (other after : List (Home (Option T)))
      → Keeps words before views → get_elem? views id ≡ some (Worker w) → Keeps (set words i x) other (set views id (Worker w')) → SlotsStay before after w w'
      → Keeps (set words i x) after (set views id (Worker w'))
  rehome [] before views id w w' i x other after k at now stay = absurd k
  rehome (n ∷ cs) before [] id w w' i x other after k at now stay = absurd k
  rehome (n ∷ cs) before (Worker u ∷ vs) id w w' i x other after k at now stay = absurd k
  rehome (n ∷ cs) before (Spent ∷ vs) id w w' i x other after k at now stay = absurd k
  rehome (n ∷ cs) before (Frame f ∷ vs) zero w w' i x other after k at now stay = absurd (frame_no_worker f w at)
  rehome (n ∷ cs) before (Frame f ∷ vs) (suc j) w w' zero x other after k at now stay = rehomed n cs before f vs j w w' k at x cs other after now stay
  rehome (n ∷ cs) before (Frame f ∷ vs) (suc j) w w' (suc b) x other after k at now stay = rehomed n cs before f vs j w w' k at n (set cs b x) other after now stay

  -- ---- steps of workers

  module _ (s : Table T) (id : ℕ) (w : WorkerView T) (ruled : Ruled s) (at : IsSeat s id w) where
    -- a step after which the worker is w', from one that the table allows
    stepped_keeps : (i x : ℕ) (w' : WorkerView T) (held : Slots T) (v v1 : View T) (act act1 : Act (Option T)) → v ≡ Worker w' → v1 ≡ Worker w' → Ruled (stepped s i x id held v1 act1)
        → SlotsStay s.homes (homes_after s.homes held act) w w' → Ruled (stepped s i x id held v act)
    stepped_keeps i x w' held v v1 act act1 is is1 now stay =
        subst (λ (y : View T). Keeps (set s.words i x) (homes_after s.homes held act) (set s.views id y)) (sym is)
        (rehome s.words s.homes s.views id w w' i x (homes_after s.homes held act1) (homes_after s.homes held act) ruled at
        (subst (λ (y : View T). Keeps (set s.words i x) (homes_after s.homes held act1) (set s.views id y)) is1 now) stay)

    -- the same where the worker's chunks and slots stay
    stays : (w' : WorkerView T) (held : Slots T) (act : Act (Option T)) → IsOneAct act → carried_after held act ≡ held → w'.drawn ≡ w.drawn → SlotsStay s.homes (homes_after s.homes held act) w w'
    stays w' held act one carried drawn k none_new = (ap (times k) (sym drawn) ∙ none_new, ap (λ (hs : List (Home (Option T))). get_elem? hs k) (no_slot s.homes held act one carried))

    drawn_stays : (n : ℕ) (held : Slots T) (act : Act (Option T)) (b : Bool) → IsOneAct act → carried_after held act ≡ cond b ((n, slice_get w.parts n) ∷ held) held
        → SlotsStay s.homes (homes_after s.homes held act) w (cond b (record w { drawn = w.drawn ++ n ∷ [] }) (record w { ended = true }))
    drawn_stays n held act true one carried k none_new =
        let a = times-append k w.drawn (n ∷ []) in
        let old : times k w.drawn ≡ 0 = omega arith in
        let here : times k (n ∷ []) ≡ 0 = omega arith in
        let ne : k ≢ n = λ e. zero_not_one (subst (λ (x : ℕ). times x (n ∷ []) ≡ 0) e here) in
        (old, other_slots s.homes held act n (slice_get w.parts n) one carried k ne)
      where
        zero_not_one : times n (n ∷ []) ≡ 0 → ⊥
        zero_not_one z = let e : cond {A = ℕ} (eqb n n) 1 0 ≡ 1 = (let t : eqb n n ≡ true = eq-eqb n n refl in rw t refl) in absurd (omega arith)
    drawn_stays n held act false one carried k none_new = (none_new, ap (λ (hs : List (Home (Option T))). get_elem? hs k) (no_slot s.homes held act one carried))

    draw_keeps : (t : Table T) → w.ended ≡ false → Turns Draws 0 1 (λ x. (x + 1) % 2 ^ 64) id w s t → Ruled t
    draw_keeps t going r =
        let held = r.0 in
        let n = get_or s.words 0 0 in
        let allowed = draws (length s.homes) id (Worker w, held) w refl going s ruled refl at (next_small s.words s.homes s.views ruled) in
        subst (λ (y : Table T). Ruled y) (sym r.6)
        (stepped_keeps 0 ((n + 1) % 2 ^ 64) (after_draw w n) held r.1 allowed.0 r.2 allowed.1 (ap (λ (p : Seat T). p.0) r.5.0) (ap (λ (p : Seat T). p.0) allowed.4.0) allowed.3
        (drawn_stays n held r.2 (ltb n (length w.parts)) r.3 (ap (λ (p : Seat T). p.1) r.5.0)))

    keep_keeps : (t : Table T) (b : ℕ) → b < w.buffers → length w.holds < 2 ^ 56 → Turns Keeping (b + 1) 1 (λ x. (x + 1) % 2 ^ 64) id w s t → Ruled t
    keep_keeps t b lt room r =
        let held = r.0 in
        let allowed = keeps_one (length s.homes) id (Worker w, held) w refl b lt room s ruled refl at (count_small s id w b ruled at lt) in
        let w' : WorkerView T = after_keep w (b + 1 - 1) in
        subst (λ (y : Table T). Ruled y) (sym r.6)
        (stepped_keeps (b + 1) ((get_or s.words (b + 1) 0 + 1) % 2 ^ 64) w' held r.1 allowed.0 r.2 allowed.1 (ap (λ (p : Seat T). p.0) r.5) (ap (λ (p : Seat T). p.0) allowed.4) allowed.3
        (stays w' held r.2 r.3 (ap (λ (p : Seat T). p.1) r.5) refl))

    release_keeps : (t : Table T) (b : ℕ) → b < w.buffers → 0 < times b w.holds → Turns Releasing (b + 1) 1 (λ x. (x + (2 ^ 64 - 1)) % 2 ^ 64) id w s t → Ruled t
    release_keeps t b lt has r =
        let held = r.0 in
        let allowed = releases_one (length s.homes) id (Worker w, held) w refl b lt has s ruled refl at (count_small s id w b ruled at lt) in
        let w' : WorkerView T = after_release w (b + 1 - 1) in
        subst (λ (y : Table T). Ruled y) (sym r.6)
        (stepped_keeps (b + 1) ((get_or s.words (b + 1) 0 + (2 ^ 64 - 1)) % 2 ^ 64) w' held r.1 allowed.0 r.2 allowed.1 (ap (λ (p : Seat T). p.0) r.5.0) (ap (λ (p : Seat T). p.0) allowed.4.0) allowed.3
        (stays w' held r.2 r.3 (ap (λ (p : Seat T). p.1) r.5.0) refl))

    look_keeps : (t : Table T) (b : ℕ) → b < w.buffers → 0 < times b w.holds → Turns Looking (b + 1) 0 (λ x. x) id w s t → Ruled t
    look_keeps t b lt has r =
        let held = r.0 in
        let allowed = looks_at (length s.homes) id (Worker w, held) w refl b lt has s ruled refl at (count_small s id w b ruled at lt) in
        subst (λ (y : Table T). Ruled y) (sym r.6)
        (stepped_keeps (b + 1) (get_or s.words (b + 1) 0) w held r.1 allowed.0 r.2 allowed.1 (ap (λ (p : Seat T). p.0) r.5.0) (ap (λ (p : Seat T). p.0) allowed.4.0) allowed.3
        (stays w held r.2 r.3 (ap (λ (p : Seat T). p.1) r.5.0) refl))

  not_the_first : (views : List (View T)) (f : FrameView T) (w : WorkerView T) (id : ℕ) → get_elem? views 0 ≡ some (Frame f) → get_elem? views id ≡ some (Worker w) → id ≢ 0
  not_the_first views f w id first at e = frame_no_worker f w (sym first ∙ subst (λ (i : ℕ). get_elem? views i ≡ some (Worker w)) e at)

  -- ---- all actions

  pub rule_kept : (workers : ℕ) (s t : Table T) (x : TableAction) → workers ≤ 64 → Ruled s → TableLeads workers s x t → Ruled t
  rule_kept workers s t (DrawBy id) few ruled r = draw_keeps s id r.0 ruled r.1 t r.2 r.3
  rule_kept workers s t (KeepBy id b) few ruled r = keep_keeps s id r.0 ruled r.1 t b r.2 r.3 r.4
  rule_kept workers s t (ReleaseBy id b) few ruled r = release_keeps s id r.0 ruled r.1 t b (in_phase s id r.0 b ruled r.1 r.2) r.2 r.3
  rule_kept workers s t (LookBy id b) few ruled r = look_keeps s id r.0 ruled r.1 t b (in_phase s id r.0 b ruled r.1 r.2) r.2 r.3
  rule_kept workers s t (TakeBy id) few ruled r = subst (λ (y : Table T). Ruled y) (sym r.2) ruled
  rule_kept workers s t MakeSeat few ruled r = subst (λ (y : Table T). Ruled y) (sym r.3) (sits 0 (Frame r.0, []) r.0 refl (let l = r.2 in omega arith) s ruled r.1)
  rule_kept workers s t (MoveSeat id) few ruled r = subst (λ (y : Table T). Ruled y) (sym r.2) (moves id (Worker r.0, []) r.0 refl s ruled r.1)
  rule_kept workers s t (JoinSeat id) few ruled r =
      let ne = not_the_first s.views r.0 r.1 id r.2 r.3 in
      subst (λ (y : Table T). Ruled y) (sym r.5)
      (comes 0 id (Frame r.0, []) (Worker r.1, []) r.0 r.1 refl refl r.4 s ruled r.2 ne (set_else s.views 0 id _ ne ∙ r.3))
