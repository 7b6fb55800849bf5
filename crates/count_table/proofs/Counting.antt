-- What a worker does to a count keeps the rule.
use Rattle.std.proofs.Common.{◌≡◌, ◌≢◌, ℕ, zero, suc, ◌+◌, ◌-◌, ◌%◌, ◌^◌, ◌<◌, ◌≤◌, true, false, cond, eqb, List, [], ◌∷◌, length, set, get_or, sym, refl, ap, ◌∙◌, subst, arith, ⊎_elim, length-set, get_or-set_same, get_or-set_other, add-one}
use Rattle.std.proofs.lemmas.Bool.{ne_eqb, eq-eqb, cases_eq}
use Rattle.std.proofs.lemmas.Bool.Decides.{nat_tests}
use Rattle.std.proofs.lemmas.List.{set-get_or}
use mathlib.Core.Option.{none, some, Option as Home}
use lib.ListN.{get_elem?}
use Rattle.atomic_table.specs.Table.{step, keeps, Allows}
use Rattle.atomic_table.proofs.Lists.{set_again}
use Rattle.std.specs.declared.option.Option.{Option}
use Rattle.count_table.specs.declared.view.FrameView.{FrameView}
use Rattle.count_table.specs.declared.view.WorkerView.{WorkerView}
use Rattle.count_table.specs.declared.view.View.{View}
use Rattle.count_table.specs.declared.view.View.TheVariants.{Frame, Worker, Spent}
use Rattle.count_table.specs.Views.{times, without, total, drawn_of, nones_of, holds_of, is_out, has_number, worker_of}
use Rattle.count_table.specs.Rule.{Fits, Counted, Keeps, Ruled}
use Rattle.count_table.specs.Plays.{after_keep, after_release, Seat, Keeping, Releasing, Looking}
use Rattle.count_table.proofs.Totals.{length-without, times-without, times-without-le, total-set}
use Rattle.count_table.proofs.Facts.{each_set, few_holds, held_twice}

module _ {T : Type 0} where
  module _ (n : ℕ) (cs : List ℕ) (hs : List (Home (Option T))) (f : FrameView T) (vs : List (View T)) (i : ℕ) (w : WorkerView T) (h : Counted n cs hs f vs) (at : get_elem? vs i ≡ some (Worker w)) (b : ℕ) (in_phase : b < length f.opening) where
    -- the count b becomes x, and the worker's holds become held
    recounted : (x : ℕ) (held : List ℕ) → x + times b w.holds ≡ get_or cs b 0 + times b held → ((c : ℕ) → c ≢ b → times c held ≡ times c w.holds) → length held ≤ 2 ^ 56 → ((c : ℕ) → 0 < times c held → c < length f.opening)
        → Counted n (set cs b x) hs f (set vs i (Worker (record w { holds = held })))
    recounted x held here there few within =
        let w' : View T = Worker (record w { holds = held }) in
        let mine = h.fit i (Worker w) at in
        let set_total : (g : View T → ℕ) → total g (set vs i w') + g (Worker w) ≡ total g vs + g w' = λ g. total-set g vs i (Worker w) w' at in
        let here_is : get_or (set cs b x) b 0 ≡ x = get_or-set_same cs b x 0 (let e = h.buffers in omega arith) in
        record {
          each_once = λ y. let s = set_total (λ v. times y (drawn_of v)) in let p = h.each_once y in omega arith;
          next_is = let s = set_total (λ v. length (drawn_of v)) in let s' = set_total nones_of in let p = h.next_is in omega arith;
          few_nones = h.few_nones;
          buffers = length-set cs b x ∙ h.buffers;
          count_is = λ c lt. ⊎_elim
              (λ (e : c ≡ b). subst (λ (k : ℕ). get_or (set cs b x) k 0 ≡ get_or f.opening k 0 + total (holds_of k) (set vs i w')) (sym e)
              (let s = set_total (holds_of b) in let p = h.count_is b in_phase in omega arith))
              (λ (ne : c ≢ b). let s = set_total (holds_of c) in let p = h.count_is c lt in let t = there c ne in let o = get_or-set_other cs b c x 0 ne in omega arith)
              (cases_eq c b);
          opened = h.opened;
          few_chunks = h.few_chunks;
          few_seats = h.few_seats;
          drawn_by = h.drawn_by;
          out_is = let s = set_total is_out in let p = h.out_is in omega arith;
          one_each = λ m. let s = set_total (has_number m) in let p = h.one_each m in omega arith;
          fit = each_set (Fits f) (Fits f) vs i w' h.fit (record { number_made = mine.number_made; few_holds = few; holds_within = within; same_parts = mine.same_parts; same_buffers = mine.same_buffers }) (λ v p. p);
          parts_home = λ k lt none_has. let s = set_total (λ v. times k (drawn_of v)) in h.parts_home k lt (omega arith);
        }

    kept : length w.holds < 2 ^ 56 → Counted n (set cs b ((get_or cs b 0 + 1) % 2 ^ 64)) hs f (set vs i (Worker (after_keep w b)))
    kept room =
        let mine = h.fit i (Worker w) at in let few = few_holds n cs hs f vs h b in let c = h.count_is b in_phase in let o = h.opened b 0 in_phase in
        recounted _ (b ∷ w.holds) (grind (arith, nat_tests)) (λ k ne. let t : eqb b k ≡ false = ne_eqb b k (λ e. ne (sym e)) in rw t (omega arith)) (omega arith)
        (λ k has. ⊎_elim (λ (e : k ≡ b). omega arith) (λ (ne : k ≢ b). mine.holds_within k (let t : eqb b k ≡ false = ne_eqb b k (λ e. ne (sym e)) in let z : cond {A = ℕ} (eqb b k) 1 0 ≡ 0 = rw t refl in omega arith)) (cases_eq k b))

    released : 0 < times b w.holds → get_or cs b 0 < 2 ^ 64 → Counted n (set cs b ((get_or cs b 0 + (2 ^ 64 - 1)) % 2 ^ 64)) hs f (set vs i (Worker (after_release w b)))
    released held small =
        let two = held_twice n cs hs f vs h i w at b held in let l = length-without b w.holds held in let mine = h.fit i (Worker w) at in let few = mine.few_holds in
        recounted _ (without b w.holds)
        (let t = times-without b b w.holds held in let e : eqb b b ≡ true = eq-eqb b b refl in let one : cond {A = ℕ} (eqb b b) 1 0 ≡ 1 = rw e refl in omega arith)
        (λ k ne. let t = times-without b k w.holds held in let e : eqb b k ≡ false = ne_eqb b k (λ p. ne (sym p)) in let none : cond {A = ℕ} (eqb b k) 1 0 ≡ 0 = rw e refl in omega arith)
        (omega arith) (λ k has. mine.holds_within k (let l = times-without-le b k w.holds in omega arith))

  -- a step by a worker on the word of the buffer b, from what it does to the count and to the worker
  module _ (b : ℕ) (w w' : WorkerView T) (turn : ℕ → ℕ) (Told : ℕ → Type 0)
      (turns : (n : ℕ) (cs : List ℕ) (hs : List (Home (Option T))) (f : FrameView T) (vs : List (View T)) (i : ℕ) → Counted n cs hs f vs → get_elem? vs i ≡ some (Worker w) → get_or cs b 0 < 2 ^ 64
      → Counted n (set cs b (turn (get_or cs b 0))) hs f (set vs i (Worker w')) × Told (get_or cs b 0)) where
    count_keeps : (words : List ℕ) (homes : List (Home (Option T))) (views : List (View T)) (id : ℕ) → Keeps words homes views → get_elem? views id ≡ some (Worker w) → get_or words (suc b) 0 < 2 ^ 64
        → Keeps (set words (suc b) (turn (get_or words (suc b) 0))) homes (set views id (Worker w')) × Told (get_or words (suc b) 0)
    count_keeps [] hs views id k at lt = absurd k
    count_keeps (n ∷ cs) hs [] id k at lt = absurd k
    count_keeps (n ∷ cs) hs (Worker u ∷ vs) id k at lt = absurd k
    count_keeps (n ∷ cs) hs (Spent ∷ vs) id k at lt = absurd k
    count_keeps (n ∷ cs) hs (Frame f ∷ vs) zero k at lt = cc
    count_keeps (n ∷ cs) hs (Frame f ∷ vs) (suc i) k at lt = turns n cs hs f vs i k at lt

  module _ (slots id : ℕ) (me : Seat T) (w : WorkerView T) (is : me.0 ≡ Worker w) (b : ℕ) (lt : b < w.buffers) where
    me_at : (views : List (View T)) → get_elem? views id ≡ some me.0 → get_elem? views id ≡ some (Worker w)
    me_at views at = at ∙ ap some is

    is_worker : worker_of me.0 ≡ w
    is_worker = ap worker_of is

    word_is : b + 1 - 1 ≡ b
    word_is = omega arith

    word_small : (words : List ℕ) → get_or words (b + 1) 0 < 18446744073709551616 → get_or words (suc b) 0 < 2 ^ 64
    word_small words small = rw (← add-one b) small

    in_phase : (n : ℕ) (cs : List ℕ) (hs : List (Home (Option T))) (f : FrameView T) (vs : List (View T)) (i : ℕ) → Counted n cs hs f vs → get_elem? vs i ≡ some (Worker w) → b < length f.opening
    in_phase n cs hs f vs i h at = let p = (h.fit i (Worker w) at).same_buffers in omega arith

    pub keeps_one : length w.holds < 2 ^ 56 → Allows Ruled slots id me (b + 1) (λ n. (n + 1) % 2 ^ 64) (Keeping (step slots (b + 1) 1 0 none) me)
    keeps_one room s ruled homes at small = (
      Worker (after_keep w b),
      keeps,
      tt,
      rw (add-one b)
          (count_keeps b w (after_keep w b) (λ n. (n + 1) % 2 ^ 64) (λ _. Unit {0}) (λ n cs hs f vs i h at' _. (kept n cs hs f vs i w h at' b (in_phase n cs hs f vs i h at') room, tt)) s.words s.homes s.views id ruled (me_at s.views at) (word_small s.words small)).0,
      rw (is_worker, word_is) refl,
    )

    pub releases_one : 0 < times b w.holds → Allows Ruled slots id me (b + 1) (λ n. (n + (2 ^ 64 - 1)) % 2 ^ 64) (Releasing (step slots (b + 1) 1 0 none) me)
    releases_one held s ruled homes at small =
        let k = count_keeps b w (after_release w b) (λ n. (n + (2 ^ 64 - 1)) % 2 ^ 64) (λ n. 2 ≤ n)
        (λ n cs hs f vs i h at' lt'. (released n cs hs f vs i w h at' b (in_phase n cs hs f vs i h at') held lt', held_twice n cs hs f vs h i w at' b held)) s.words s.homes s.views id ruled
        (me_at s.views at) (word_small s.words small) in (
          Worker (after_release w b),
          keeps,
          tt,
          rw (add-one b) k.0,
          (rw (is_worker, word_is) refl, rw (add-one b) k.1),
        )

    pub looks_at : 0 < times b w.holds → Allows Ruled slots id me (b + 1) (λ n. n) (Looking (step slots (b + 1) 0 0 none) me)
    looks_at held s ruled homes at small =
        let k = count_keeps b w w (λ n. n) (λ n. 2 ≤ n)
        (λ n cs hs f vs i h at' lt'. (subst (λ (c : List ℕ). Counted n c hs f (set vs i (Worker w))) (sym (set-get_or cs b 0)) (subst (λ (v : List (View T)). Counted n cs hs f v) (sym (set_again vs i (Worker w) at')) h), held_twice n cs hs f vs h i w at' b held)) s.words s.homes s.views id ruled
        (me_at s.views at) (word_small s.words small) in (
          Worker w,
          keeps,
          tt,
          rw (add-one b) k.0,
          ((λ i. (sym is i, me.1)), rw (add-one b) k.1),
        )
