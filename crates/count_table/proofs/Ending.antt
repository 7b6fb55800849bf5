-- The rule at the opening and at the end.
use Rattle.std.proofs.Common.{◌≡◌, ℕ, zero, suc, ◌+◌, ◌^◌, ◌<◌, ◌≤◌, min, false, cond, ltb, List, [], ◌∷◌, map, length, get_or, sym, refl, ap, ◌∙◌, subst, arith}
use Rattle.std.proofs.lemmas.Bool.{le-ltb}
use Rattle.std.proofs.lemmas.List.{length-map}
use mathlib.Core.Option.{some, Option as Home, some-ne-none}
use lib.ListN.{get_elem?}
use Rattle.std.specs.Prelude.{All, slice_get, drop}
use Rattle.atomic_table.specs.Table.{Final, Seen}
use Rattle.std.specs.declared.option.Option.{Option}
use Rattle.std.specs.declared.option.Option.TheVariants.{None, Some}
use Rattle.count_table.specs.declared.view.FrameView.{FrameView}
use Rattle.count_table.specs.declared.view.WorkerView.{WorkerView}
use Rattle.count_table.specs.declared.view.View.{View}
use Rattle.count_table.specs.declared.view.View.TheVariants.{Frame, Worker, Spent}
use Rattle.count_table.specs.Views.{times, total, drawn_of, nones_of, holds_of, is_out}
use Rattle.count_table.specs.Rule.{Fits, Counted, Keeps, Ruled}
use Rattle.count_table.specs.Opening.{opened, present}
use Rattle.count_table.specs.Seats.{IsReady}
use Rattle.count_table.specs.Plays.{Seat}
use Rattle.count_table.proofs.Totals.{total_at, total-zero}
use Rattle.count_table.proofs.Facts.{taken}

module _ {T : Type 0} where
  -- the end, where no worker is out
  gone : (f : FrameView T) (v : View T) → Fits f v → is_out v ≡ 0 → (g : View T → ℕ) → g Spent ≡ 0 → g v ≡ 0
  gone f (Frame u) h out g z = absurd h
  gone f (Worker w) h out g z = absurd (omega arith)
  gone f Spent h out g z = z

  all_gone : (n : ℕ) (cs : List ℕ) (hs : List (Home (Option T))) (f : FrameView T) (vs : List (View T)) → Counted n cs hs f vs → f.out ≡ 0 → (g : View T → ℕ) → g Spent ≡ 0 → total g vs ≡ 0
  all_gone n cs hs f vs h none_out g z = total-zero g vs (λ k v at. gone f v (h.fit k v at) (let t = total_at is_out vs k v at in let o = h.out_is in omega arith) g z)

  pub record Ended (words : List ℕ) (f : FrameView T) : Type 0 where
    pub counts : (b : ℕ) → b < length f.opening → get_or words (suc b) 0 ≡ get_or f.opening b 0
    pub draws : min (get_or words 0 0) (length f.parts) ≡ length f.drawn
    pub each_once : (x : ℕ) → times x (map (λ (p : ℕ × ℕ). p.0) f.drawn) ≡ cond (ltb x (length f.drawn)) 1 0
    pub whole : 0 < f.nones → length f.drawn ≡ length f.parts
    pub few : length f.drawn ≤ length f.parts

  ended_at : (n : ℕ) (cs : List ℕ) (hs : List (Home (Option T))) (f : FrameView T) (vs : List (View T)) → Counted n cs hs f vs → f.out ≡ 0 → Ended (n ∷ cs) f
  ended_at n cs hs f vs h none_out =
      let zero_of = all_gone n cs hs f vs h none_out in
      let z0 = zero_of (λ v. length (drawn_of v)) refl in let z1 = zero_of nones_of refl in
      let len : length (drawn_of (Frame f)) ≡ length f.drawn = length-map f.drawn (λ (p : ℕ × ℕ). p.0) in
      let t = taken n cs hs f vs h in let nx = h.next_is in record {
        counts = λ b lt. let z = zero_of (holds_of b) refl in let p = h.count_is b lt in omega arith;
        draws = omega arith;
        each_once = λ x. let z = zero_of (λ v. times x (drawn_of v)) refl in let m : min n (length f.parts) ≡ length f.drawn = omega arith in
            let o : times x (map (λ (p : ℕ × ℕ). p.0) f.drawn) + total (λ v. times x (drawn_of v)) vs ≡ cond {A = ℕ} (ltb x (length f.drawn)) 1 0 = rw m at h.each_once x in omega arith;
        whole = λ some_ended. omega arith;
        few = omega arith;
      }

  end_keeps : (words : List ℕ) (homes : List (Home (Option T))) (views : List (View T)) (id : ℕ) (f : FrameView T) → Keeps words homes views → get_elem? views id ≡ some (Frame f) → f.out ≡ 0 → Ended words f
  end_keeps [] hs views id f k at none_out = absurd k
  end_keeps (n ∷ cs) hs [] id f k at none_out = absurd k
  end_keeps (n ∷ cs) hs (Worker u ∷ vs) id f k at none_out = absurd k
  end_keeps (n ∷ cs) hs (Spent ∷ vs) id f k at none_out = absurd k
  end_keeps (n ∷ cs) hs (Frame g ∷ vs) (suc i) f k at none_out = absurd (k.fit i (Frame f) at)
  end_keeps (n ∷ cs) hs (Frame g ∷ vs) zero f k at none_out = let e : g ≡ f = cc in subst (λ (u : FrameView T). Ended (n ∷ cs) u) e (ended_at n cs hs g vs k (ap (λ (u : FrameView T). u.out) e ∙ none_out))

  pub ends : (id : ℕ) (me : Seat T) (f : FrameView T) (ws : List ℕ) (xs : List (Option T)) → me ≡ (Frame f, []) → f.out ≡ 0 → Final (Seen Ruled id me.0) ws xs → Ended ws f
  ends id me f ws xs is none_out fin =
      let s = fin.0 in subst (λ (u : List ℕ). Ended u f) fin.2 (end_keeps s.words s.homes s.views id f fin.1.0 (fin.1.1 ∙ ap (λ (m : Seat T). some m.0) is) none_out)

  -- the number of chunks drawn, from the first word
  pub draws_counted : (ws : List ℕ) (f : FrameView T) (word chunks least : ℕ) → Ended ws f → get_or ws 0 0 ≡ word → length f.parts ≡ chunks → least ≡ min word chunks → least ≡ length f.drawn
  draws_counted ws f word chunks least e at parts is = let d = e.draws in omega arith

  -- the opening
  home_of : (ps : List T) (k : ℕ) → k < length ps → get_elem? (map some (map Some ps)) k ≡ some (some (slice_get ps k))
  home_of [] k lt = absurd (omega arith)
  home_of (p ∷ ps) zero lt = refl
  home_of (p ∷ ps) (suc k) lt = home_of ps k (omega arith)

  opened_at : (counts : List ℕ) (parts : List T) → All (λ (n : ℕ). (1 ≤ n) × (n ≤ 2 ^ 62)) counts → length parts ≤ 4096
      → Counted 0 counts (map some (map Some parts)) (opened counts parts) []
  opened_at counts parts in_range few = record {
    each_once = λ x. let t : ltb x (min 0 (length parts)) ≡ false = le-ltb x (min 0 (length parts)) (omega arith) in sym (rw t refl);
    next_is = refl;
    few_nones = omega arith;
    buffers = refl;
    count_is = λ b lt. omega arith;
    opened = in_range;
    few_chunks = few;
    few_seats = omega arith;
    drawn_by = λ k d lt. absurd (omega arith);
    out_is = refl;
    one_each = λ n. omega arith;
    fit = λ k v e. absurd (some-ne-none v (sym e));
    parts_home = λ k lt _. home_of parts k lt;
  }

  pub opens : (ws ws' counts : List ℕ) (slots : List (Option T)) (parts parts' : List T) → ws ≡ 0 ∷ counts → ws' ≡ 0 ∷ counts → slots ≡ map Some parts → parts' ≡ parts
      → All (λ (n : ℕ). (1 ≤ n) × (n ≤ 2 ^ 62)) counts → length parts ≤ 4096
      → Keeps ws (map some slots) (Frame (opened (drop 1 ws') parts') ∷ [])
  opens ws ws' counts slots parts parts' words_is words_is' slots_is parts_is in_range few =
      subst (λ (u : List ℕ). Keeps u (map some slots) (Frame (opened (drop 1 ws') parts') ∷ [])) (sym words_is)
      (subst (λ (u : List ℕ). Keeps (0 ∷ counts) (map some slots) (Frame (opened (drop 1 u) parts') ∷ [])) (sym words_is')
      (subst (λ (u : List T). Keeps (0 ∷ counts) (map some slots) (Frame (opened counts u) ∷ [])) (sym parts_is)
      (subst (λ (u : List (Option T)). Keeps (0 ∷ counts) (map some u) (Frame (opened counts parts) ∷ [])) (sym slots_is) (opened_at counts parts in_range few))))

  pub still_ready : (r : Option ℕ) (w : WorkerView T) (hs : List ℕ) (held : List (ℕ × Option T)) → IsReady r w held → IsReady r (record w { holds = hs }) held
  still_ready None w hs held h = h
  still_ready (Some n) w hs held h = h

  -- what comes back where no memory is found
  pub present-map : (parts : List T) → present (map Some parts) ≡ parts
  present-map [] = refl
  present-map (p ∷ parts) = ap (λ ps. p ∷ ps) (present-map parts)
