-- A new seat, one that goes on under a new seat, and one that leaves keep the rule.
use Rattle.std.proofs.Common.{◌≡◌, ◌≢◌, ℕ, zero, suc, ◌+◌, ◌<◌, ◌≤◌, false, eqb, List, [], ◌∷◌, ◌++◌, map, length, set, sym, refl, ap, ◌∙◌, subst, arith, ⊎_elim, length-append}
use Rattle.std.proofs.lemmas.Bool.{ne_eqb, cases_eq}
use Rattle.std.proofs.lemmas.List.Elements.{All-append}
use mathlib.Core.Option.{some, Option as Home}
use lib.ListN.{get_elem?}
use Rattle.atomic_table.specs.Table.{Splits, Joins}
use Rattle.atomic_table.proofs.Lists.{at_snoc}
use Rattle.std.specs.declared.option.Option.{Option}
use Rattle.count_table.specs.declared.view.FrameView.{FrameView}
use Rattle.count_table.specs.declared.view.WorkerView.{WorkerView}
use Rattle.count_table.specs.declared.view.View.{View}
use Rattle.count_table.specs.declared.view.View.TheVariants.{Frame, Worker, Spent}
use Rattle.count_table.specs.Views.{times, total, drawn_of, nones_of, holds_of, is_out, has_number}
use Rattle.count_table.specs.Rule.{Fits, Counted, Keeps, Ruled}
use Rattle.count_table.specs.Plays.{Seat, seated, fresh, joined, moved_left, moved_right, left_of, right_of, both_of}
use Rattle.count_table.proofs.Totals.{is_one, firsts, seconds, times-append, total-set, total-push, total_at, total-zero}
use Rattle.count_table.proofs.Facts.{each_set, frame_no_worker}

module _ {T : Type 0} where
  -- a new seat
  seated_total : (g : View T → ℕ) (f : FrameView T) (vs : List (View T)) → g (Worker (fresh f)) ≡ 0 → g (Frame (seated f)) ≡ g (Frame f) → total g (Frame (seated f) ∷ (vs ++ Worker (fresh f) ∷ [])) ≡ total g (Frame f ∷ vs)
  seated_total g f vs none_new same = let t = total-push g vs (Worker (fresh f)) in omega arith

  older : (f : FrameView T) (v : View T) → Fits f v → Fits (seated f) v
  older f (Frame g) h = h
  older f (Worker w) h = record { number_made = let x = h.number_made in omega arith; few_holds = h.few_holds; holds_within = h.holds_within; same_parts = h.same_parts; same_buffers = h.same_buffers }
  older f Spent h = h

  not_yet_made : (f : FrameView T) (v : View T) → Fits f v → has_number f.made v ≡ 0
  not_yet_made f (Frame g) h = absurd h
  not_yet_made f (Worker w) h = let e : eqb w.number f.made ≡ false = ne_eqb w.number f.made (λ e. let x = h.number_made in omega arith) in rw e refl
  not_yet_made f Spent h = refl

  sat : (n : ℕ) (cs : List ℕ) (hs : List (Home (Option T))) (f : FrameView T) (vs : List (View T)) → Counted n cs hs f vs → f.made < 64 → Counted n cs hs (seated f) (vs ++ Worker (fresh f) ∷ [])
  sat n cs hs f vs h room = record {
    each_once = λ x. seated_total (λ v. times x (drawn_of v)) f vs refl refl ∙ h.each_once x;
    next_is = let a = seated_total (λ v. length (drawn_of v)) f vs refl refl in let b = seated_total nones_of f vs refl refl in let p = h.next_is in omega arith;
    few_nones = let p = h.few_nones in omega arith;
    buffers = h.buffers;
    count_is = λ b lt. let t = total-push (holds_of b) vs (Worker (fresh f)) in let p = h.count_is b lt in omega arith;
    opened = h.opened;
    few_chunks = h.few_chunks;
    few_seats = omega arith;
    drawn_by = λ k d lt. let p = h.drawn_by k d lt in omega arith;
    out_is = let t = total-push is_out vs (Worker (fresh f)) in let p = h.out_is in omega arith;
    one_each = λ m. let t = total-push (has_number m) vs (Worker (fresh f)) in ⊎_elim
        (λ (e : f.made ≡ m). let z : total (has_number m) vs ≡ 0 = subst (λ (k : ℕ). total (has_number k) vs ≡ 0) e (total-zero (has_number f.made) vs (λ k v at. not_yet_made f v (h.fit k v at))) in let one : has_number m (Worker (fresh f)) ≤ 1 = is_one (eqb f.made m) in omega arith)
        (λ (ne : f.made ≢ m). let none : has_number m (Worker (fresh f)) ≡ 0 = (let e : eqb f.made m ≡ false = ne_eqb f.made m ne in rw e refl) in let p = h.one_each m in omega arith)
        (cases_eq f.made m);
    fit = λ k v at. ⊎_elim (λ (x : get_elem? vs k ≡ some v). older f v (h.fit k v x)) (λ (x : Worker (fresh f) ≡ v). subst (Fits (seated f)) x (record { number_made = omega arith; few_holds = omega arith; holds_within = λ b has. absurd (omega arith); same_parts = refl; same_buffers = refl })) (at_snoc vs (Worker (fresh f)) v k at);
    parts_home = λ k lt none_has. h.parts_home k lt (sym (seated_total (λ v. times k (drawn_of v)) f vs refl refl) ∙ none_has);
  }

  -- the frame's seat is the first
  sit_keeps : (words : List ℕ) (homes : List (Home (Option T))) (views : List (View T)) (id : ℕ) (f : FrameView T) → Keeps words homes views → get_elem? views id ≡ some (Frame f) → f.made < 64 → Keeps words homes (set views id (Frame (seated f)) ++ Worker (fresh f) ∷ [])
  sit_keeps [] hs views id f k at room = absurd k
  sit_keeps (n ∷ cs) hs [] id f k at room = absurd k
  sit_keeps (n ∷ cs) hs (Worker u ∷ vs) id f k at room = absurd k
  sit_keeps (n ∷ cs) hs (Spent ∷ vs) id f k at room = absurd k
  sit_keeps (n ∷ cs) hs (Frame g ∷ vs) zero f k at room = let e : g ≡ f = cc in subst (λ (u : FrameView T). Counted n cs hs (seated u) (vs ++ Worker (fresh u) ∷ [])) e (sat n cs hs g vs k (subst (λ (u : FrameView T). u.made < 64) (sym e) room))
  sit_keeps (n ∷ cs) hs (Frame g ∷ vs) (suc i) f k at room = absurd (k.fit i (Frame f) at)

  pub sits : (id : ℕ) (me : Seat T) (f : FrameView T) → me ≡ (Frame f, []) → f.made < 64 → Splits Ruled id me.0 (left_of me.0) (right_of me.0)
  sits id me f is room s ruled at =
      let e : me.0 ≡ Frame f = ap (λ (m : Seat T). m.0) is in
      subst (λ (v : View T). Keeps s.words s.homes (set s.views id (left_of v) ++ right_of v ∷ [])) (sym e) (sit_keeps s.words s.homes s.views id f ruled (subst (λ (v : View T). get_elem? s.views id ≡ some v) e at) room)

  -- a seat that leaves
  module _ (n : ℕ) (cs : List ℕ) (hs : List (Home (Option T))) (f : FrameView T) (vs : List (View T)) (i : ℕ) (w : WorkerView T) (h : Counted n cs hs f vs) (at : get_elem? vs i ≡ some (Worker w)) where
    came_total : (g : View T → ℕ) → g (Frame (joined f w)) ≡ g (Frame f) + g (Worker w) → g Spent ≡ 0 → total g (Frame (joined f w) ∷ set vs i Spent) ≡ total g (Frame f ∷ vs)
    came_total g adds spent = let s = total-set g vs i (Worker w) Spent at in omega arith

    came : w.holds ≡ [] → Counted n cs hs (joined f w) (set vs i Spent)
    came none_held =
        let d = firsts f.drawn w.drawn w.number in
        let lengths_add : (λ (v : View T). length (drawn_of v)) (Frame (joined f w)) ≡ length (drawn_of (Frame f)) + length w.drawn = ap length d ∙ length-append (drawn_of (Frame f)) w.drawn in
        let lengths = came_total (λ v. length (drawn_of v)) lengths_add refl in
        let set_total : (g : View T → ℕ) → total g (set vs i Spent) + g (Worker w) ≡ total g vs + g Spent = λ g. total-set g vs i (Worker w) Spent at in
        let mine = h.fit i (Worker w) at in
        record {
          each_once = λ x. came_total (λ v. times x (drawn_of v)) (ap (times x) d ∙ times-append x (drawn_of (Frame f)) w.drawn) refl ∙ h.each_once x;
          next_is = let s = came_total nones_of refl refl in let p = h.next_is in omega arith;
          few_nones = let p = h.few_nones in let o = h.out_is in let t = total_at is_out vs i (Worker w) at in let one = is_one w.ended in omega arith;
          buffers = h.buffers;
          count_is = λ b lt. let s = set_total (holds_of b) in let z : holds_of b (Worker w) ≡ 0 = ap (times b) none_held in let p = h.count_is b lt in omega arith;
          opened = h.opened;
          few_chunks = h.few_chunks;
          few_seats = h.few_seats;
          drawn_by = All-append (λ (p : ℕ × ℕ). p.1 < f.made) f.drawn (map (λ (c : ℕ). (c, w.number)) w.drawn) h.drawn_by (seconds w.drawn w.number f.made mine.number_made);
          out_is = let s = set_total is_out in let p = h.out_is in omega arith;
          one_each = λ m. let s = set_total (has_number m) in let p = h.one_each m in omega arith;
          fit = each_set (Fits f) (Fits (joined f w)) vs i Spent h.fit tt (rejoined f w);
          parts_home = λ k lt none_has. h.parts_home k lt (sym (came_total (λ v. times k (drawn_of v)) (ap (times k) d ∙ times-append k (drawn_of (Frame f)) w.drawn) refl) ∙ none_has);
        }
      where
        rejoined : (f : FrameView T) (w : WorkerView T) (v : View T) → Fits f v → Fits (joined f w) v
        rejoined f w (Frame g) p = p
        rejoined f w (Worker u) p = record { number_made = p.number_made; few_holds = p.few_holds; holds_within = p.holds_within; same_parts = p.same_parts; same_buffers = p.same_buffers }
        rejoined f w Spent p = p

  come_keeps : (words : List ℕ) (homes : List (Home (Option T))) (views : List (View T)) (id other : ℕ) (f : FrameView T) (w : WorkerView T) → Keeps words homes views → get_elem? views id ≡ some (Frame f) → ¬ (other ≡ id)
      → get_elem? (set views id (Frame (joined f w))) other ≡ some (Worker w) → w.holds ≡ [] → Keeps words homes (set (set views id (Frame (joined f w))) other Spent)
  come_keeps [] hs views id other f w k at ne at' none_held = absurd k
  come_keeps (n ∷ cs) hs [] id other f w k at ne at' none_held = absurd k
  come_keeps (n ∷ cs) hs (Worker u ∷ vs) id other f w k at ne at' none_held = absurd k
  come_keeps (n ∷ cs) hs (Spent ∷ vs) id other f w k at ne at' none_held = absurd k
  come_keeps (n ∷ cs) hs (Frame g ∷ vs) (suc i) other f w k at ne at' none_held = absurd (k.fit i (Frame f) at)
  come_keeps (n ∷ cs) hs (Frame g ∷ vs) zero zero f w k at ne at' none_held = absurd (ne refl)
  come_keeps (n ∷ cs) hs (Frame g ∷ vs) zero (suc i) f w k at ne at' none_held = let e : g ≡ f = cc in subst (λ (u : FrameView T). Counted n cs hs (joined u w) (set vs i Spent)) e (came n cs hs g vs i w k at' none_held)

  pub comes : (id other : ℕ) (me you : Seat T) (f : FrameView T) (w : WorkerView T) → me ≡ (Frame f, []) → you.0 ≡ Worker w → w.holds ≡ []
      → Joins Ruled id me.0 other you.0 (both_of me.0 you.0) Spent
  comes id other me you f w is its none_held s ruled at ne at' =
      let e : me.0 ≡ Frame f = ap (λ (m : Seat T). m.0) is in let e' : you.0 ≡ Worker w = its in
      let b : both_of me.0 you.0 ≡ Frame (joined f w) = ap (λ (m : View T × View T). both_of m.0 m.1) (λ k. (e k, e' k)) in
      subst (λ (v : View T). Keeps s.words s.homes (set (set s.views id v) other Spent)) (sym b)
      (come_keeps s.words s.homes s.views id other f w ruled (at ∙ ap some e) ne (subst (λ (v : View T). get_elem? (set s.views id v) other ≡ some you.0) b at' ∙ ap some e') none_held)

  -- a worker that goes on under a new seat
  module _ (n : ℕ) (cs : List ℕ) (hs : List (Home (Option T))) (f : FrameView T) (vs : List (View T)) (i : ℕ) (w : WorkerView T) (h : Counted n cs hs f vs) (at : get_elem? vs i ≡ some (Worker w)) where
    moved_total : (g : View T → ℕ) → g Spent ≡ 0 → total g (set vs i Spent ++ Worker w ∷ []) ≡ total g vs
    moved_total g z = let s = total-set g vs i (Worker w) Spent at in let t = total-push g (set vs i Spent) (Worker w) in omega arith

    moved : Counted n cs hs f (set vs i Spent ++ Worker w ∷ [])
    moved = record {
      each_once = λ x. let t = moved_total (λ v. times x (drawn_of v)) refl in let p = h.each_once x in omega arith;
      next_is = let t = moved_total (λ v. length (drawn_of v)) refl in let t' = moved_total nones_of refl in let p = h.next_is in omega arith;
      few_nones = h.few_nones;
      buffers = h.buffers;
      count_is = λ b lt. let t = moved_total (holds_of b) refl in let p = h.count_is b lt in omega arith;
      opened = h.opened;
      few_chunks = h.few_chunks;
      few_seats = h.few_seats;
      drawn_by = h.drawn_by;
      out_is = moved_total is_out refl ∙ h.out_is;
      one_each = λ m. let t = moved_total (has_number m) refl in let p = h.one_each m in omega arith;
      fit = λ k v e. ⊎_elim (λ (x : get_elem? (set vs i Spent) k ≡ some v). each_set (Fits f) (Fits f) vs i Spent h.fit tt (λ u p. p) k v x) (λ (x : Worker w ≡ v). subst (Fits f) x (h.fit i (Worker w) at)) (at_snoc (set vs i Spent) (Worker w) v k e);
      parts_home = λ k lt none_has. let t = moved_total (λ v. times k (drawn_of v)) refl in h.parts_home k lt (omega arith);
    }

  move_keeps : (words : List ℕ) (homes : List (Home (Option T))) (views : List (View T)) (id : ℕ) (w : WorkerView T) → Keeps words homes views → get_elem? views id ≡ some (Worker w) → Keeps words homes (set views id Spent ++ Worker w ∷ [])
  move_keeps [] hs views id w k at = absurd k
  move_keeps (n ∷ cs) hs [] id w k at = absurd k
  move_keeps (n ∷ cs) hs (Worker u ∷ vs) id w k at = absurd k
  move_keeps (n ∷ cs) hs (Spent ∷ vs) id w k at = absurd k
  move_keeps (n ∷ cs) hs (Frame f ∷ vs) zero w k at = absurd (frame_no_worker f w at)
  move_keeps (n ∷ cs) hs (Frame f ∷ vs) (suc i) w k at = moved n cs hs f vs i w k at

  pub moves : (id : ℕ) (me : Seat T) (w : WorkerView T) → me.0 ≡ Worker w → Splits Ruled id me.0 (moved_left me.0) (moved_right me.0)
  moves id me w is s ruled at = subst (λ (v : View T). Keeps s.words s.homes (set s.views id Spent ++ v ∷ [])) (sym is) (move_keeps s.words s.homes s.views id w ruled (at ∙ ap some is))
