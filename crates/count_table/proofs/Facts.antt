-- What follows from the rule.
use Rattle.std.proofs.Common.{◌≡◌, ◌≢◌, ℕ, ◌*◌, ◌^◌, ◌<◌, ◌≤◌, min, Bool, true, false, cond, ltb, List, ◌∷◌, length, set, get_or, refl, ◌∙◌, sym, subst, arith, ⊎_elim}
use Rattle.std.proofs.lemmas.Bool.{le-ltb, cases_lt}
use mathlib.Core.Option.{some, Option as Home}
use lib.ListN.{get_elem?}
use Rattle.atomic_table.proofs.Lists.{at_set}
use Rattle.std.specs.declared.option.Option.{Option}
use Rattle.count_table.specs.declared.view.FrameView.{FrameView}
use Rattle.count_table.specs.declared.view.WorkerView.{WorkerView}
use Rattle.count_table.specs.declared.view.View.{View}
use Rattle.count_table.specs.declared.view.View.TheVariants.{Frame, Worker, Spent}
use Rattle.count_table.specs.Views.{times, total, drawn_of, nones_of, holds_of, is_out, drawn_count, none_count}
use Rattle.count_table.specs.Rule.{IsSeatOf, Fits, Counted}
use Rattle.count_table.specs.Facts.{RuleFacts}
use Rattle.count_table.proofs.Totals.{times-length, total_at, total-le, total-times, total-length, all_of, initial}

module _ {T : Type 0} where
  abbrev pub Each : (View T → Type 0) → List (View T) → Type 0
  Each P vs = (k : ℕ) (v : View T) → get_elem? vs k ≡ some v → P v

  -- one view is changed to w, and what holds of the others goes on to hold
  pub each_set : (P Q : View T → Type 0) (vs : List (View T)) (i : ℕ) (w : View T) → Each P vs → Q w → ((v : View T) → P v → Q v) → Each Q (set vs i w)
  each_set P Q vs i w all mine others k v e = ⊎_elim (λ (x : (k ≡ i) × (w ≡ v)). subst Q x.1 mine) (λ (x : (k ≢ i) × (get_elem? vs k ≡ some v)). others v (all k v x.1)) (at_set vs i k w v e)

  pub frame_no_worker : (f : FrameView T) (w : WorkerView T) → some (Frame f) ≡ some (Worker w) → ⊥
  frame_no_worker f w e = cc

  -- a draw leaves what the rule says of a seat
  pub seat_drawn : (f : FrameView T) (w : WorkerView T) (chunks : List ℕ) (ended : Bool) → IsSeatOf f w → IsSeatOf f (record w { drawn = chunks; ended = ended })
  seat_drawn f w chunks ended h = record { number_made = h.number_made; few_holds = h.few_holds; holds_within = h.holds_within; same_parts = h.same_parts; same_buffers = h.same_buffers }

  nones_fit : (f : FrameView T) (v : View T) → Fits f v → nones_of v ≤ 1 * is_out v
  nones_fit f (Frame g) h = absurd h
  nones_fit f (Worker w) h = elim w.ended as (λ b. cond b 1 0 ≤ 1 * 1) [ true ↦ omega arith | false ↦ omega arith ]
  nones_fit f Spent h = omega arith

  holds_fit : (b : ℕ) (f : FrameView T) (v : View T) → Fits f v → holds_of b v ≤ 2 ^ 56 * is_out v
  holds_fit b f (Frame g) h = absurd h
  holds_fit b f (Worker w) h = let t = times-length b w.holds in let l = h.few_holds in omega arith
  holds_fit b f Spent h = omega arith

  module _ (n : ℕ) (cs : List ℕ) (hs : List (Home (Option T))) (f : FrameView T) (vs : List (View T)) (h : Counted n cs hs f vs) where
    -- as many chunks stand in the views as the next number says
    pub taken : drawn_count (Frame f ∷ vs) ≡ min n (length f.parts)
    taken = total-length drawn_of (Frame f ∷ vs) ∙ initial (min n (length f.parts)) (all_of drawn_of (Frame f ∷ vs)) (λ x. sym (total-times drawn_of (Frame f ∷ vs) x) ∙ h.each_once x)

    few_nones_all : none_count (Frame f ∷ vs) ≤ 64
    few_nones_all =
        let e = total-le nones_of is_out 1 vs (λ k v at. nones_fit f v (h.fit k v at)) in
        let en = h.few_nones in let o = h.out_is in let fs = h.few_seats in omega arith

    -- the next chunk number is small, so it does not wrap
    pub few_next : n ≤ 4160
    few_next = let t = taken in let x = h.next_is in let e = few_nones_all in let fc = h.few_chunks in omega arith

    -- where a view has drawn None, the next number is at least the number of chunks
    pub none_left : 0 < none_count (Frame f ∷ vs) → length f.parts ≤ n
    none_left some_none = let t = taken in let x = h.next_is in omega arith

    -- each worker holds few, so a count does not wrap
    pub few_holds : (b : ℕ) → total (holds_of b) vs ≤ 2 ^ 62
    few_holds b =
        let e = total-le (holds_of b) is_out (2 ^ 56) vs (λ k v at. holds_fit b f v (h.fit k v at)) in
        let en = h.few_nones in let o = h.out_is in let fs = h.few_seats in omega arith

    module _ (i : ℕ) (w : WorkerView T) (at : get_elem? vs i ≡ some (Worker w)) where
      -- a buffer that a worker holds has a count of at least 2
      pub held_twice : (b : ℕ) → 0 < times b w.holds → 2 ≤ get_or cs b 0
      held_twice b held =
          let lt = (h.fit i (Worker w) at).holds_within b held in
          let c = h.count_is b lt in let o = h.opened b 0 lt in let t = total_at (holds_of b) vs i (Worker w) at in omega arith

      -- what the worker has drawn lies below the next number
      pub below_next : (c : ℕ) → 0 < times c w.drawn → c < n
      below_next c has = ⊎_elim (λ (lt : c < n). lt) (λ (ge : n ≤ c). absurd (
          let t = total_at (λ v. times c (drawn_of v)) vs i (Worker w) at in let e = h.each_once c in
          let z : ltb c (min n (length f.parts)) ≡ false = le-ltb c (min n (length f.parts)) (omega arith) in
          let z' : cond {A = ℕ} (ltb c (min n (length f.parts))) 1 0 ≡ 0 = rw z refl in omega arith)) (cases_lt c n)

  pub rule_facts : (n : ℕ) (cs : List ℕ) (hs : List (Home (Option T))) (f : FrameView T) (vs : List (View T)) → Counted n cs hs f vs → RuleFacts n cs f vs
  rule_facts n cs hs f vs h = record {
    taken = taken n cs hs f vs h;
    none_left = none_left n cs hs f vs h;
    held_twice = λ k w b at. held_twice n cs hs f vs h k w at b;
    below_next = λ k w c at. below_next n cs hs f vs h k w at c;
    small_next = few_next n cs hs f vs h;
    small_counts = λ b lt. let few = few_holds n cs hs f vs h b in let c = h.count_is b lt in let o = h.opened b 0 lt in omega arith;
  }
