-- Each action keeps what holds of the cells, beside the machine that is as far or farther.
use Rattle.std.proofs.Common.{◌≡◌, ◌≢◌, ℕ, zero, suc, ◌+◌, ◌<◌, ◌≤◌, Bool, true, false, ℤ, List, [], ◌∷◌, ◌++◌, length, Option, None, Some, Ok, Err, refl, sym, ap, subst, ◌∙◌, inl, inr, ⊎_elim, arith}
use Rattle.std.proofs.lemmas.Bool.{cases_eq, cases_lt}
use Rattle.std.specs.Prelude.{slice_get}
use Rattle.sac_base.specs.declared.faults.Fault.{Fault}
use Rattle.wl_core.specs.declared.setup.Job.{Job}
use Rattle.wl_core.specs.declared.setup.Job.TheVariants.{Write as Store, Fold}
use Rattle.wl_core.specs.declared.events.Event.{Event}
use Rattle.wl_core.specs.declared.events.Event.TheVariants.{Draw, Stop, Write}
use Rattle.wl_core.specs.Facts.{cell_at, own, partial_by, stored_by, value_of}
use Rattle.wl_core.specs.Machine.{Runs, IsSetup, Reached, SetupValue, StateValue, Steps, Works, both, combine, end, first, gather, listed, opened, put, store}
use Rattle.wl_core.proofs.Combining.{gathered, gathered_is, same}
use Rattle.wl_core.proofs.Functions.{put_same, put_other}
use Rattle.wl_core.proofs.Written.{stored_more, partials_more}
use Rattle.wl_core.proofs.Kept.{apart, first_below, reached_facts, reached_more}
use Rattle.phase_schedules.specs.Along.{OnceOrBefore}
use Rattle.phase_schedules.specs.Moments.{Work, met_fault, untouched, wrote}
use Rattle.phase_schedules.specs.Readings.{IsAsFar, IsOver}
use Rattle.phase_schedules.proofs.Ahead.{Idle, SameTable, runs_one, same_table}

-- of each position the cell, if the worker w wrote it
abbrev pub own_written : SetupValue → Work → ℕ → List (Option (List ℤ))
own_written u k w = listed (λ p. own w (k.written p) (cell_at u p)) (length u.cells)

-- what the workers have made of the cells of the chunks that the state says are taken
pub record Made (u : SetupValue) (k : Work) (s : StateValue) : Type 0 where
  pub within : (c : ℕ) → c < s.taken → (first u c ≤ k.next c) × (k.next c ≤ end u c)
  pub fresh : (c : ℕ) → s.taken ≤ c → (k.next c ≡ first u c) × (k.stopped c ≡ false)
  pub done : (c p : ℕ) → c < s.taken → first u c ≤ p → p < k.next c → k.written p ≡ s.owner c ∷ []
  pub ahead : (c p : ℕ) → k.next c ≤ p → p < end u c → k.written p ≡ []
  pub stored : (p : ℕ) → k.stored p ≡ stored_by u.job (k.written p) (cell_at u p)
  pub partials : (w : ℕ) → k.partial w ≡ partial_by u.job (own_written u k w)
  pub as_far : (c : ℕ) → c < s.taken → IsAsFar u k s c

-- ---- the opening

stored_none : (j : Job) (value : Option (List ℤ)) → None ≡ stored_by j [] value
stored_none Store value = refl
stored_none (Fold base op) value = refl

partial_none : (j : Job) (n : ℕ) (f : ℕ → Option (List ℤ)) → ((p : ℕ) → f p ≡ None) → None ≡ partial_by j (listed f n)
partial_none Store n f e = refl
partial_none (Fold base op) n f e = sym (gathered_is (combine op) f n ∙ nothing n)
  where
    nothing : (m : ℕ) → gathered (combine op) f m ≡ None
    nothing zero = refl
    nothing (suc m) = λ j. both (combine op) (nothing m j) (e m j)

pub made_none : (u : SetupValue) → Made u (untouched u) (opened u)
made_none u = record {
  within = λ c lt. absurd (omega arith);
  fresh = λ c le. (refl, refl);
  done = λ c p lt from below. absurd (omega arith);
  ahead = λ c p le below. refl;
  stored = λ p. stored_none u.job (cell_at u p);
  partials = λ w. partial_none u.job (length u.cells) (λ p. own w [] (cell_at u p)) (λ p. refl);
  as_far = λ c lt. absurd (omega arith);
}

module _ (u : SetupValue) (k : Work) (s : StateValue) (is : IsSetup u) (h : Made u k s) where
  -- ---- steps of the machine alone

  over_again : (t : StateValue) (c : ℕ) → t.next c ≡ s.next c → t.stopped c ≡ s.stopped c → IsOver u s c → IsOver u t c
  over_again t c n st over = ⊎_elim (λ (x : s.next c ≡ end u c). inl (n ∙ x)) (λ (x : s.stopped c ≡ true). inr (st ∙ x)) over

  far_again : (t : StateValue) (c : ℕ) → t.next c ≡ s.next c → t.stopped c ≡ s.stopped c → IsAsFar u k s c → IsAsFar u k t c
  far_again t c n st far =
      ⊎_elim
      (λ (e : (k.next c ≡ s.next c) × (k.stopped c ≡ s.stopped c)). inl (e.0 ∙ sym n, e.1 ∙ sym st))
      (λ (e : IsOver u s c × (k.stopped c ≡ false) × (k.next c ≤ s.next c)). inr (over_again t c n st e.0, e.1, (let l = e.2 in omega arith)))
      far

  -- a state with the same chunks
  pub made_same : (t : StateValue) → t.taken ≡ s.taken → t.owner ≡ s.owner → t.next ≡ s.next → t.stopped ≡ s.stopped → Made u k t
  made_same t taken owner next stopped = record {
    within = λ c lt. h.within c (omega arith);
    fresh = λ c le. h.fresh c (omega arith);
    done = λ c p lt from below. h.done c p (omega arith) from below ∙ ap (λ (g : ℕ → ℕ). g c ∷ []) (sym owner);
    ahead = h.ahead;
    stored = h.stored;
    partials = h.partials;
    as_far = λ c lt. far_again t c (ap (λ (g : ℕ → ℕ). g c) next) (ap (λ (g : ℕ → Bool). g c) stopped) (h.as_far c (omega arith));
  }

  -- a worker's chunk was ended
  pub made_idle : (w : ℕ) (few : w < u.workers) (t : StateValue) → Idle u w few s t → Made u k t
  made_idle w few t i =
      let taken = i.same.taken in
      record {
        within = λ c lt. h.within c (omega arith);
        fresh = λ c le. h.fresh c (omega arith);
        done = λ c p lt from below. h.done c p (omega arith) from below ∙ ap (λ (g : ℕ → ℕ). g c ∷ []) (sym i.same.owner);
        ahead = h.ahead;
        stored = h.stored;
        partials = h.partials;
        as_far = λ c lt. ⊎_elim
            (λ (e : (t.next c ≡ s.next c) × (t.stopped c ≡ s.stopped c)). far_again t c e.0 e.1 (h.as_far c (omega arith)))
            (λ (e : Works u s w c × IsOver u t c × (s.next c ≤ t.next c)). ended c (h.as_far c (omega arith)) e)
            (i.each c);
      }
    where
      ended : (c : ℕ) → IsAsFar u k s c → Works u s w c × IsOver u t c × (s.next c ≤ t.next c) → IsAsFar u k t c
      ended c far e =
          let on = e.2 in
          inr (
            e.1,
            ⊎_elim (λ (x : (k.next c ≡ s.next c) × (k.stopped c ≡ s.stopped c)). x.1 ∙ e.0.3) (λ (x : IsOver u s c × (k.stopped c ≡ false) × (k.next c ≤ s.next c)). x.1) far,
            ⊎_elim (λ (x : (k.next c ≡ s.next c) × (k.stopped c ≡ s.stopped c)). let y = x.0 in let goal : k.next c ≤ t.next c = omega arith in goal) (λ (x : IsOver u s c × (k.stopped c ≡ false) × (k.next c ≤ s.next c)). let y = x.2 in let goal : k.next c ≤ t.next c = omega arith in goal) far,
          )

  -- the next chunk was drawn
  pub made_drawn : (w : ℕ) (t : StateValue) → Steps u s (Draw w) t → Made u k t
  made_drawn w t st = subst (Made u k) (sym st.3) drawn
    where
      drawn : Made u k (record s { taken = s.taken + 1; owner = put s.owner s.taken w; next = put s.next s.taken (first u s.taken); stopped = put s.stopped s.taken false })
      drawn = record {
        within = λ c lt. ⊎_elim
            (λ (e : c ≡ s.taken). let f = first_below u s.taken is.size st.2 in let x = (h.fresh c (omega arith)).0 in let fc : first u c ≡ first u s.taken = ap (first u) e in let ec : end u c ≡ end u s.taken = ap (end u) e in
            (let a : first u c ≤ k.next c = omega arith in a, let b : k.next c ≤ end u c = omega arith in b))
            (λ (ne : c ≢ s.taken). h.within c (omega arith))
            (cases_eq c s.taken);
        fresh = λ c le. h.fresh c (omega arith);
        done = λ c p lt from below. ⊎_elim
            (λ (e : c ≡ s.taken). absurd (let x = (h.fresh c (omega arith)).0 in omega arith))
            (λ (ne : c ≢ s.taken). h.done c p (omega arith) from below ∙ ap (λ (n : ℕ). n ∷ []) (sym (put_other s.owner s.taken w c ne)))
            (cases_eq c s.taken);
        ahead = h.ahead;
        stored = h.stored;
        partials = h.partials;
        as_far = λ c lt. ⊎_elim
            (λ (e : c ≡ s.taken). let x = h.fresh c (omega arith) in inl (x.0 ∙ ap (first u) e ∙ sym (put_same s.next s.taken (first u s.taken) c e), x.1 ∙ sym (put_same s.stopped s.taken false c e)))
            (λ (ne : c ≢ s.taken). far_again (record s { taken = s.taken + 1; owner = put s.owner s.taken w; next = put s.next s.taken (first u s.taken); stopped = put s.stopped s.taken false }) c (put_other s.next s.taken (first u s.taken) c ne) (put_other s.stopped s.taken false c ne) (h.as_far c (omega arith)))
            (cases_eq c s.taken);
      }

  -- ---- a worker writes a cell

  from_first : (d : ℕ) → first u d ≤ k.next d
  from_first d = ⊎_elim (λ (lt : d < s.taken). (h.within d lt).0) (λ (ge : s.taken ≤ d). let x = (h.fresh d ge).0 in omega arith) (cases_lt d s.taken)

  -- a position of a chunk that is not c's next one
  elsewhere : (c d p : ℕ) → k.next c < end u c → first u d ≤ p → p < end u d → d ≢ c → p ≢ k.next c
  elsewhere c d p below from lt ne e = ne (apart u d c p from lt (let x = from_first c in omega arith) (omega arith))

  -- a machine that is as far with all chunks, after the worker n wrote in c
  made_written : (t : StateValue) (n c : ℕ) (value : Option (List ℤ)) → t.taken ≡ s.taken → t.owner ≡ s.owner → c < s.taken → s.owner c ≡ n → k.next c < end u c
      → slice_get u.cells (k.next c) ≡ Some (Ok value) → ((d : ℕ) → d < t.taken → IsAsFar u (wrote u k n c value) t d) → Made u (wrote u k n c value) t
  made_written t n c value taken owner lt own_is below cell far =
      let q = k.next c in
      let moved : (d : ℕ) → d ≡ c → put k.next c (q + 1) d ≡ q + 1 = λ d e. put_same k.next c (q + 1) d e in
      let stays : (d : ℕ) → d ≢ c → put k.next c (q + 1) d ≡ k.next d = λ d ne. put_other k.next c (q + 1) d ne in
      let other : (p : ℕ) → p ≢ q → put k.written q (k.written q ++ n ∷ []) p ≡ k.written p = λ p ne. put_other k.written q (k.written q ++ n ∷ []) p ne in
      let was : k.written q ≡ [] = h.ahead c q (omega arith) below in
      let now : put k.written q (k.written q ++ n ∷ []) q ≡ n ∷ [] = put_same k.written q (k.written q ++ n ∷ []) q refl ∙ ap (λ (l : List ℕ). l ++ n ∷ []) was in
      let there : cell_at u q ≡ value = ap value_of cell in
      record {
        within = λ d l. let y = h.within d (omega arith) in ⊎_elim
            (λ (e : d ≡ c). let z = moved d e in let z' = ap k.next e in let f = ap (end u) e in
            (let a : first u d ≤ put k.next c (q + 1) d = omega arith in a, let b : put k.next c (q + 1) d ≤ end u d = omega arith in b))
            (λ (ne : d ≢ c). let z = stays d ne in (let a : first u d ≤ put k.next c (q + 1) d = omega arith in a, let b : put k.next c (q + 1) d ≤ end u d = omega arith in b))
            (cases_eq d c);
        fresh = λ d le. let y = h.fresh d (omega arith) in (stays d (λ e. omega arith) ∙ y.0, y.1);
        done = λ d p l from below'. ⊎_elim
            (λ (e : d ≡ c). let z = moved d e in ⊎_elim
            (λ (e' : p ≡ q). ap (put k.written q (k.written q ++ n ∷ [])) e' ∙ now ∙ ap (λ (x : ℕ). x ∷ []) (sym own_is ∙ ap s.owner (sym e) ∙ ap (λ (g : ℕ → ℕ). g d) (sym owner)))
            (λ (ne : p ≢ q). let z' = ap k.next e in other p ne ∙ h.done d p (omega arith) from (omega arith) ∙ ap (λ (g : ℕ → ℕ). g d ∷ []) (sym owner))
            (cases_eq p q))
            (λ (ne : d ≢ c). let z = stays d ne in let b = h.within d (omega arith) in
            other p (elsewhere c d p below from (omega arith) ne) ∙ h.done d p (omega arith) from (omega arith) ∙ ap (λ (g : ℕ → ℕ). g d ∷ []) (sym owner))
            (cases_eq d c);
        ahead = λ d p l below'. ⊎_elim
            (λ (e : d ≡ c). let z = moved d e in let z' = ap k.next e in other p (λ e'. omega arith) ∙ h.ahead d p (omega arith) below')
            (λ (ne : d ≢ c). let z = stays d ne in let f = from_first d in other p (elsewhere c d p below (omega arith) below' ne) ∙ h.ahead d p (omega arith) below')
            (cases_eq d c);
        stored = stored_more u k.written k.stored u.job q n value was there h.stored;
        partials = partials_more u k.written k.partial u.job q n value is.takes (omega arith) was there h.partials;
        as_far = far;
      }

  -- the chunks but c, in which a worker wrote, and in which the machine went on or not
  far_elsewhere : (t : StateValue) (n c d : ℕ) (value : Option (List ℤ)) → d ≢ c → t.next d ≡ s.next d → t.stopped d ≡ s.stopped d → IsAsFar u k s d → IsAsFar u (wrote u k n c value) t d
  far_elsewhere t n c d value ne next stopped far =
      let stays : put k.next c (k.next c + 1) d ≡ k.next d = put_other k.next c (k.next c + 1) d ne in
      ⊎_elim
      (λ (e : (k.next d ≡ s.next d) × (k.stopped d ≡ s.stopped d)). inl (stays ∙ e.0 ∙ sym next, e.1 ∙ sym stopped))
      (λ (e : IsOver u s d × (k.stopped d ≡ false) × (k.next d ≤ s.next d)). inr (over_again t d next stopped e.0, e.1, (let l = e.2 in let goal : put k.next c (k.next c + 1) d ≤ t.next d = omega arith in goal)))
      far

  -- what the machine does where a worker writes a cell: it writes it too, or it wrote it before
  abbrev pub Follows : Event → Work → Type 0
  Follows e k' = (es : List Event) × (t : StateValue) × OnceOrBefore e es × Runs u s es t × Reached u t × SameTable s t × Made u k' t

  module _ (r : Reached u s) (n c : ℕ) (few : n < u.workers) (lt : c < s.taken) (own_is : s.owner c ≡ n) (below : k.next c < end u c) where
    write_follows : (value : Option (List ℤ)) → k.stopped c ≡ false → slice_get u.cells (k.next c) ≡ Some (Ok value) → (k.next c ≡ s.next c) × (k.stopped c ≡ s.stopped c) → Follows (Write n) (wrote u k n c value)
    write_follows value going cell e =
        let works : Works u s n c = (lt, own_is, (let x = e.0 in omega arith), sym e.1 ∙ going) in
        let there : slice_get u.cells (s.next c) ≡ Some (Ok value) = ap (slice_get u.cells) (sym e.0) ∙ cell in
        let t : StateValue = record s { next = put s.next c (s.next c + 1); written = put s.written (s.next c) (s.written (s.next c) ++ n ∷ []); stored = store u.job s.stored (s.next c) value; partial = gather u.job s.partial n value } in (
          Write n ∷ [],
          t,
          inl refl,
          runs_one u s t (Write n) (few, (c, value, works, there, refl)),
          reached_more u s t (Write n) r (few, (c, value, works, there, refl)),
          record { taken = refl; owner = refl; count = refl; holds = refl },
          made_written t n c value refl refl lt own_is below cell
              (λ d l. ⊎_elim
              (λ (e' : d ≡ c). inl (put_same k.next c (k.next c + 1) d e' ∙ ap (λ (x : ℕ). x + 1) e.0 ∙ sym (put_same s.next c (s.next c + 1) d e'), ap k.stopped e' ∙ e.1 ∙ ap s.stopped (sym e')))
              (λ (ne : d ≢ c). far_elsewhere t n c d value ne (put_other s.next c (s.next c + 1) d ne) refl (h.as_far d l))
              (cases_eq d c)),
        )

    behind : (value : Option (List ℤ)) → slice_get u.cells (k.next c) ≡ Some (Ok value) → IsOver u s c → k.next c ≤ s.next c → k.next c < s.next c
    behind value cell over le =
        ⊎_elim
        (λ (x : s.next c ≡ end u c). omega arith)
        (λ (x : s.stopped c ≡ true). ⊎_elim
        (λ (e : k.next c ≡ s.next c). absurd (let f = ((reached_facts u s is r).stops c lt x).1.1 in let g : slice_get u.cells (s.next c) ≡ Some (Ok value) = ap (slice_get u.cells) (sym e) ∙ cell in cc))
        (λ (ne : k.next c ≢ s.next c). omega arith)
        (cases_eq (k.next c) (s.next c)))
        over

    write_waits : (value : Option (List ℤ)) → slice_get u.cells (k.next c) ≡ Some (Ok value) → IsOver u s c × (k.stopped c ≡ false) × (k.next c ≤ s.next c) → Follows (Write n) (wrote u k n c value)
    write_waits value cell e =
        let b = behind value cell e.0 e.2 in (
          [],
          s,
          inr refl,
          refl,
          r,
          same_table s,
          made_written s n c value refl refl lt own_is below cell
              (λ d l. ⊎_elim
              (λ (e' : d ≡ c).
              let moved = put_same k.next c (k.next c + 1) d e' in
              let at = ap s.next e' in
              inr (subst (IsOver u s) (sym e') e.0, ap k.stopped e' ∙ e.1, (let goal : put k.next c (k.next c + 1) d ≤ s.next d = omega arith in goal)))
              (λ (ne : d ≢ c). far_elsewhere s n c d value ne refl refl (h.as_far d l))
              (cases_eq d c)),
        )

    pub writes : (value : Option (List ℤ)) → k.stopped c ≡ false → slice_get u.cells (k.next c) ≡ Some (Ok value) → Follows (Write n) (wrote u k n c value)
    writes value going cell = ⊎_elim (λ e. write_follows value going cell e) (λ e. write_waits value cell e) (h.as_far c lt)

    -- ---- a worker meets a cell that faults

    -- the other fields say nothing of where chunks stopped, but for those that nobody drew
    made_stopped : (t : StateValue) → t.taken ≡ s.taken → t.owner ≡ s.owner → ((d : ℕ) → d < t.taken → IsAsFar u (met_fault k c) t d) → Made u (met_fault k c) t
    made_stopped t taken owner far = record {
      within = λ d l. h.within d (omega arith);
      fresh = λ d le. let y = h.fresh d (omega arith) in (y.0, put_other k.stopped c true d (λ e. omega arith) ∙ y.1);
      done = λ d p l from below'. h.done d p (omega arith) from below' ∙ ap (λ (g : ℕ → ℕ). g d ∷ []) (sym owner);
      ahead = h.ahead;
      stored = h.stored;
      partials = h.partials;
      as_far = far;
    }

    stop_elsewhere : (t : StateValue) (d : ℕ) → d ≢ c → t.next d ≡ s.next d → t.stopped d ≡ s.stopped d → IsAsFar u k s d → IsAsFar u (met_fault k c) t d
    stop_elsewhere t d ne next stopped far =
        let stays : put k.stopped c true d ≡ k.stopped d = put_other k.stopped c true d ne in
        ⊎_elim
        (λ (e : (k.next d ≡ s.next d) × (k.stopped d ≡ s.stopped d)). inl (e.0 ∙ sym next, stays ∙ e.1 ∙ sym stopped))
        (λ (e : IsOver u s d × (k.stopped d ≡ false) × (k.next d ≤ s.next d)). inr (over_again t d next stopped e.0, stays ∙ e.1, (let l = e.2 in let goal : k.next d ≤ t.next d = omega arith in goal)))
        far

    stop_follows : (fault : Fault) → k.stopped c ≡ false → slice_get u.cells (k.next c) ≡ Some (Err fault) → (k.next c ≡ s.next c) × (k.stopped c ≡ s.stopped c) → Follows (Stop n) (met_fault k c)
    stop_follows fault going cell e =
        let works : Works u s n c = (lt, own_is, (let x = e.0 in omega arith), sym e.1 ∙ going) in
        let there : slice_get u.cells (s.next c) ≡ Some (Err fault) = ap (slice_get u.cells) (sym e.0) ∙ cell in
        let t : StateValue = record s { stopped = put s.stopped c true } in (
          Stop n ∷ [],
          t,
          inl refl,
          runs_one u s t (Stop n) (few, (c, fault, works, there, refl)),
          reached_more u s t (Stop n) r (few, (c, fault, works, there, refl)),
          record { taken = refl; owner = refl; count = refl; holds = refl },
          made_stopped t refl refl
              (λ d l. ⊎_elim
              (λ (e' : d ≡ c). inl (ap k.next e' ∙ e.0 ∙ ap s.next (sym e'), put_same k.stopped c true d e' ∙ sym (put_same s.stopped c true d e')))
              (λ (ne : d ≢ c). stop_elsewhere t d ne refl (put_other s.stopped c true d ne) (h.as_far d l))
              (cases_eq d c)),
        )

    -- a machine that is done with the chunk stopped there too
    stopped_there : (fault : Fault) → slice_get u.cells (k.next c) ≡ Some (Err fault) → IsOver u s c → k.next c ≤ s.next c → (k.next c ≡ s.next c) × (s.stopped c ≡ true)
    stopped_there fault cell over le =
        let facts = reached_facts u s is r in
        let here : k.next c ≡ s.next c = ⊎_elim
        (λ (e : k.next c ≡ s.next c). e)
        (λ (ne : k.next c ≢ s.next c). absurd (let d = (facts.done c (k.next c) lt (from_first c) (omega arith)).1.1 in cc))
        (cases_eq (k.next c) (s.next c)) in
        (here, ⊎_elim (λ (x : s.next c ≡ end u c). absurd (omega arith)) (λ (x : s.stopped c ≡ true). x) over)

    stop_waits : (fault : Fault) → slice_get u.cells (k.next c) ≡ Some (Err fault) → IsOver u s c × (k.stopped c ≡ false) × (k.next c ≤ s.next c) → Follows (Stop n) (met_fault k c)
    stop_waits fault cell e =
        let there = stopped_there fault cell e.0 e.2 in (
          [],
          s,
          inr refl,
          refl,
          r,
          same_table s,
          made_stopped s refl refl
              (λ d l. ⊎_elim
              (λ (e' : d ≡ c). inl (ap k.next e' ∙ there.0 ∙ ap s.next (sym e'), put_same k.stopped c true d e' ∙ sym there.1 ∙ ap s.stopped (sym e')))
              (λ (ne : d ≢ c). stop_elsewhere s d ne refl refl (h.as_far d l))
              (cases_eq d c)),
        )

    pub stops : (fault : Fault) → k.stopped c ≡ false → slice_get u.cells (k.next c) ≡ Some (Err fault) → Follows (Stop n) (met_fault k c)
    stops fault going cell = ⊎_elim (λ e. stop_follows fault going cell e) (λ e. stop_waits fault cell e) (h.as_far c lt)
