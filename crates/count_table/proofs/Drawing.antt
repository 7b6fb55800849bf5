-- A draw keeps the rule.
use Rattle.std.proofs.Common.{◌≡◌, ◌≢◌, ℕ, zero, suc, ◌+◌, ◌%◌, ◌^◌, ◌<◌, ◌≤◌, min, Bool, true, false, cond, ltb, eqb, List, [], ◌∷◌, ◌++◌, length, set, get_or, sym, refl, ap, ◌∙◌, subst, arith, length-append}
use Rattle.std.proofs.Math.Nat.{mod-eq_of_lt}
use Rattle.std.proofs.lemmas.Bool.{ltb-true, ltb-false, le-ltb, eq-eqb}
use mathlib.Core.Option.{none, some, Option as Home}
use lib.ListN.{get_elem?}
use Rattle.std.specs.Prelude.{slice_get}
use Rattle.atomic_table.specs.Table.{step, keeps, takes, Act, Valid, homes_after, carried_after, Allows}
use Rattle.atomic_table.proofs.Lists.{set_else}
use Rattle.std.specs.declared.option.Option.{Option}
use Rattle.count_table.specs.declared.view.FrameView.{FrameView}
use Rattle.count_table.specs.declared.view.WorkerView.{WorkerView}
use Rattle.count_table.specs.declared.view.View.{View}
use Rattle.count_table.specs.declared.view.View.TheVariants.{Frame, Worker, Spent}
use Rattle.count_table.specs.Views.{times, total, drawn_of, nones_of, holds_of, is_out, has_number, worker_of}
use Rattle.count_table.specs.Rule.{Fits, Counted, Keeps, Ruled}
use Rattle.count_table.specs.Plays.{after_draw, Seat, slots_after, Draws}
use Rattle.count_table.proofs.Totals.{once_next, times-append, total-set}
use Rattle.count_table.proofs.Facts.{each_set, seat_drawn, frame_no_worker, few_next, below_next}

module _ {T : Type 0} where
  module _ (n : ℕ) (cs : List ℕ) (hs : List (Home (Option T))) (f : FrameView T) (vs : List (View T)) (i : ℕ) (w : WorkerView T) (h : Counted n cs hs f vs) (at : get_elem? vs i ≡ some (Worker w)) where
    drew_one : n < length f.parts → Counted (n + 1) cs (set hs n none) f (set vs i (Worker (record w { drawn = w.drawn ++ n ∷ [] })))
    drew_one more =
        let w' : View T = Worker (record w { drawn = w.drawn ++ n ∷ [] }) in
        let mine = h.fit i (Worker w) at in
        let set_total : (g : View T → ℕ) → total g (set vs i w') + g (Worker w) ≡ total g vs + g w' = λ g. total-set g vs i (Worker w) w' at in
        record {
          each_once = λ x.
              let s = set_total (λ v. times x (drawn_of v)) in let a = times-append x w.drawn (n ∷ []) in let o = once_next x n (length f.parts) more in let p = h.each_once x in omega arith;
          next_is = let s = set_total (λ v. length (drawn_of v)) in let a = length-append w.drawn (n ∷ []) in let s' = set_total nones_of in let p = h.next_is in omega arith;
          few_nones = h.few_nones;
          buffers = h.buffers;
          count_is = λ b lt. let s = set_total (holds_of b) in let p = h.count_is b lt in omega arith;
          opened = h.opened;
          few_chunks = h.few_chunks;
          few_seats = h.few_seats;
          drawn_by = h.drawn_by;
          out_is = let s = set_total is_out in let p = h.out_is in omega arith;
          one_each = λ m. let s = set_total (has_number m) in let p = h.one_each m in omega arith;
          fit = each_set (Fits f) (Fits f) vs i w' h.fit (seat_drawn f w (w.drawn ++ n ∷ []) w.ended mine) (λ v p. p);
          parts_home = λ k lt none_has.
              let s = set_total (λ v. times k (drawn_of v)) in let a = times-append k w.drawn (n ∷ []) in
              let ne : k ≢ n = (λ e. let one : cond {A = ℕ} (eqb n k) 1 0 ≡ 1 = (let t : eqb n k ≡ true = eq-eqb n k (sym e) in rw t refl) in omega arith) in
              set_else hs n k none ne ∙ h.parts_home k lt (omega arith);
        }

    drew_none : w.ended ≡ false → length f.parts ≤ n → Counted (n + 1) cs hs f (set vs i (Worker (record w { ended = true })))
    drew_none not_yet none_left =
        let w' : View T = Worker (record w { ended = true }) in
        let mine = h.fit i (Worker w) at in
        let set_total : (g : View T → ℕ) → total g (set vs i w') + g (Worker w) ≡ total g vs + g w' = λ g. total-set g vs i (Worker w) w' at in
        let not_ended : nones_of (Worker w) ≡ 0 = ap (λ (b : Bool). cond {A = ℕ} b 1 0) not_yet in
        record {
          each_once = λ x. let s = set_total (λ v. times x (drawn_of v)) in let p = h.each_once x in
              let m : min (n + 1) (length f.parts) ≡ min n (length f.parts) = omega arith in rw m (omega arith);
          next_is = let s = set_total (λ v. length (drawn_of v)) in let s' = set_total nones_of in let p = h.next_is in omega arith;
          few_nones = h.few_nones;
          buffers = h.buffers;
          count_is = λ b lt. let s = set_total (holds_of b) in let p = h.count_is b lt in omega arith;
          opened = h.opened;
          few_chunks = h.few_chunks;
          few_seats = h.few_seats;
          drawn_by = h.drawn_by;
          out_is = let s = set_total is_out in let p = h.out_is in omega arith;
          one_each = λ m. let s = set_total (has_number m) in let p = h.one_each m in omega arith;
          fit = each_set (Fits f) (Fits f) vs i w' h.fit (seat_drawn f w w.drawn true mine) (λ v p. p);
          parts_home = λ k lt none_has. let s = set_total (λ v. times k (drawn_of v)) in h.parts_home k lt (omega arith);
        }

    -- the slot of the chunk, if one is left, is taken with its part
    abbrev Drawn : ℕ → Bool → List (ℕ × Option T) → Type 0
    Drawn next b held = (a : Act (Option T)) × Valid hs held a × Counted next cs (homes_after hs held a) f (set vs i (Worker (cond b (record w { drawn = w.drawn ++ n ∷ [] }) (record w { ended = true }))))
        × (carried_after held a ≡ cond b ((n, slice_get w.parts n) ∷ held) held)

    drew_at : (b : Bool) (held : List (ℕ × Option T)) → ltb n (length w.parts) ≡ b → w.ended ≡ false → Drawn (n + 1) b held
    drew_at true held e not_yet =
        let same = (h.fit i (Worker w) at).same_parts in
        let lt : n < length f.parts = (let l = ltb-true n (length w.parts) e in let x = ap (λ (p : List T). length p) same in omega arith) in
        let none_has : total (λ v. times n (drawn_of v)) (Frame f ∷ vs) ≡ 0 = h.each_once n ∙ (let t : ltb n (min n (length f.parts)) ≡ false = le-ltb n (min n (length f.parts)) (omega arith) in rw t refl) in
        (takes n (slice_get w.parts n), h.parts_home n lt none_has ∙ ap (λ (p : List T). some (some (slice_get p n))) (sym same), drew_one lt, refl)
    drew_at false held e not_yet =
        let same = (h.fit i (Worker w) at).same_parts in
        (keeps, tt, drew_none not_yet (let l = ltb-false n (length w.parts) e in let x = ap (λ (p : List T). length p) same in omega arith), refl)

    drew : (held : List (ℕ × Option T)) → w.ended ≡ false → Drawn ((n + 1) % 2 ^ 64) (ltb n (length w.parts)) held
    drew held not_yet =
        let few = few_next n cs hs f vs h in
        let small : (n + 1) % 2 ^ 64 ≡ n + 1 = mod-eq_of_lt (omega arith) in
        subst (λ (m : ℕ). Drawn m (ltb n (length w.parts)) held) (sym small) (drew_at (ltb n (length w.parts)) held refl not_yet)

  abbrev Draws_to : List ℕ → List (Home (Option T)) → List (View T) → ℕ → WorkerView T → List (ℕ × Option T) → Type 0
  Draws_to words homes views id w held = (a : Act (Option T)) × Valid homes held a
      × Keeps (set words 0 ((get_or words 0 0 + 1) % 2 ^ 64)) (homes_after homes held a) (set views id (Worker (after_draw w (get_or words 0 0))))
      × (carried_after held a ≡ slots_after w held (get_or words 0 0)) × ((c : ℕ) → 0 < times c w.drawn → c < get_or words 0 0)

  draw_keeps : (words : List ℕ) (homes : List (Home (Option T))) (views : List (View T)) (id : ℕ) (w : WorkerView T) (held : List (ℕ × Option T)) → Keeps words homes views → get_elem? views id ≡ some (Worker w)
      → w.ended ≡ false → Draws_to words homes views id w held
  draw_keeps [] hs views id w held k at e = absurd k
  draw_keeps (n ∷ cs) hs [] id w held k at e = absurd k
  draw_keeps (n ∷ cs) hs (Worker u ∷ vs) id w held k at e = absurd k
  draw_keeps (n ∷ cs) hs (Spent ∷ vs) id w held k at e = absurd k
  draw_keeps (n ∷ cs) hs (Frame f ∷ vs) zero w held k at e = absurd (frame_no_worker f w at)
  draw_keeps (n ∷ cs) hs (Frame f ∷ vs) (suc i) w held k at e = let d = drew n cs hs f vs i w k at held e in (d.0, d.1, d.2, d.3, below_next n cs hs f vs k i w at)

  pub draws : (slots id : ℕ) (me : Seat T) (w : WorkerView T) → me.0 ≡ Worker w → w.ended ≡ false → Allows Ruled slots id me 0 (λ n. (n + 1) % 2 ^ 64) (Draws (step slots 0 1 0 none) me)
  draws slots id me w is e s ruled homes at small =
      let d = draw_keeps s.words s.homes s.views id w me.1 ruled (at ∙ ap some is) e in
      let m : worker_of me.0 ≡ w = ap worker_of is in (
        Worker (after_draw w (get_or s.words 0 0)),
        d.0,
        d.1,
        d.2,
        (
          subst (λ (u : WorkerView T). ◌≡◌ {A = Seat T} (Worker (after_draw w (get_or s.words 0 0)), carried_after me.1 d.0) (Worker (after_draw u (get_or s.words 0 0)), slots_after u me.1 (get_or s.words 0 0))) (sym m)
              (λ i. (Worker (after_draw w (get_or s.words 0 0)), d.3 i)),
          subst (λ (u : WorkerView T). (c : ℕ) → 0 < times c u.drawn → c < get_or s.words 0 0) (sym m) d.4,
        ),
      )
