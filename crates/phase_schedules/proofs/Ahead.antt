-- The machine ends a worker's chunk, before the worker does.
use Rattle.std.proofs.Common.{◌≡◌, ◌≢◌, ℕ, zero, suc, ◌+◌, ◌<◌, ◌≤◌, ◌⊎◌, true, false, Option, List, [], ◌∷◌, ◌++◌, ℤ, Some, Ok, Err, refl, sym, ap, subst, ◌∙◌, inl, inr, ⊎_elim, arith}
use Rattle.std.specs.Prelude.{slice_get}
use Rattle.std.proofs.lemmas.Bool.{cases_eq, cases_lt, cases_Bool, true≢false}
use Rattle.std.proofs.lemmas.Option.{slice_get_cases}
use Rattle.sac_base.specs.declared.faults.Fault.{Fault}
use Rattle.wl_core.specs.declared.events.Event.{Event}
use Rattle.wl_core.specs.declared.events.Event.TheVariants.{Draw, Keep, Release, Stop, Write}
use Rattle.wl_core.specs.Machine.{Runs, Steps, CellValue, IsSetup, Reached, SetupValue, StateValue, Works, end, gather, put, store}
use Rattle.wl_core.proofs.Functions.{put_same, put_other}
use Rattle.wl_core.proofs.Kept.{reached_facts, reached_more}
use Rattle.phase_schedules.specs.Along.{OnlyOf}
use Rattle.phase_schedules.specs.Readings.{IsOver}

-- what a table says of a state stays
pub record SameTable (s t : StateValue) : Type 0 where
  pub taken : t.taken ≡ s.taken
  pub owner : t.owner ≡ s.owner
  pub count : t.count ≡ s.count
  pub holds : t.holds ≡ s.holds

pub same_table : (s : StateValue) → SameTable s s
same_table s = record { taken = refl; owner = refl; count = refl; holds = refl }

-- ---- events one after another

pub runs_both : (u : SetupValue) (s t v : StateValue) (ds es : List Event) → Runs u s ds t → Runs u t es v → Runs u s (ds ++ es) v
runs_both u s t v [] es a b = subst (λ (x : StateValue). Runs u x es v) (sym a) b
runs_both u s t v (d ∷ ds) es a b = (a.0, a.1, runs_both u a.0 t v ds es a.2 b)

pub runs_one : (u : SetupValue) (s t : StateValue) (e : Event) → Steps u s e t → Runs u s (e ∷ []) t
runs_one u s t e st = (t, st, refl)

only_both : (n : ℕ) (ds es : List Event) → OnlyOf n ds → OnlyOf n es → OnlyOf n (ds ++ es)
only_both n [] es a b = b
only_both n (Draw v ∷ ds) es a b = absurd a
only_both n (Keep v c ∷ ds) es a b = absurd a
only_both n (Release v c ∷ ds) es a b = absurd a
only_both n (Write v ∷ ds) es a b = (a.0, only_both n ds es a.1 b)
only_both n (Stop v ∷ ds) es a b = (a.0, only_both n ds es a.1 b)

-- the machine went on in the chunk c of the worker w alone
record On (u : SetupValue) (w : ℕ) (s : StateValue) (c : ℕ) (t : StateValue) : Type 0 where
  events : List Event
  runs : Runs u s events t
  own : OnlyOf w events
  reached : Reached u t
  same : SameTable s t
  on : s.next c ≤ t.next c
  others : (d : ℕ) → d ≢ c → (t.next d ≡ s.next d) × (t.stopped d ≡ s.stopped d)

on_then : (u : SetupValue) (w : ℕ) (s t v : StateValue) (c : ℕ) → On u w s c t → On u w t c v → On u w s c v
on_then u w s t v c a b = record {
  events = a.events ++ b.events;
  runs = runs_both u s t v a.events b.events a.runs b.runs;
  own = only_both w a.events b.events a.own b.own;
  reached = b.reached;
  same = record {
    taken = b.same.taken ∙ a.same.taken;
    owner = b.same.owner ∙ a.same.owner;
    count = b.same.count ∙ a.same.count;
    holds = b.same.holds ∙ a.same.holds;
  };
  on = let x = a.on in let y = b.on in omega arith;
  others = λ d ne. ((b.others d ne).0 ∙ (a.others d ne).0, (b.others d ne).1 ∙ (a.others d ne).1);
}

module _ (u : SetupValue) (w : ℕ) (few : w < u.workers) where
  -- one event on: the chunk is over, or one position further
  abbrev GoesOn : StateValue → ℕ → StateValue → Type 0
  GoesOn s c t = On u w s c t × (IsOver u t c ⊎ (Works u t w c × (t.next c ≡ s.next c + 1)))

  writes_on : (s : StateValue) (c : ℕ) (value : Option (List ℤ)) → Reached u s → Works u s w c → slice_get u.cells (s.next c) ≡ Some (Ok value) → (t : StateValue) × GoesOn s c t
  writes_on s c value r works cell =
      let t : StateValue = record s { next = put s.next c (s.next c + 1); written = put s.written (s.next c) (s.written (s.next c) ++ w ∷ []); stored = store u.job s.stored (s.next c) value; partial = gather u.job s.partial w value } in
      let one : put s.next c (s.next c + 1) c ≡ s.next c + 1 = put_same s.next c (s.next c + 1) c refl in
      let below = works.2 in (
        t,
        (
          record {
            events = Write w ∷ [];
            runs = runs_one u s t (Write w) (few, (c, value, works, cell, refl));
            own = (refl, tt);
            reached = reached_more u s t (Write w) r (few, (c, value, works, cell, refl));
            same = record { taken = refl; owner = refl; count = refl; holds = refl };
            on = omega arith;
            others = λ d ne. (put_other s.next c (s.next c + 1) d ne, refl);
          },
          ⊎_elim
              (λ (lt : put s.next c (s.next c + 1) c < end u c). inr ((works.0, works.1, lt, works.3), one))
              (λ (ge : end u c ≤ put s.next c (s.next c + 1) c). inl (inl (omega arith)))
              (cases_lt (put s.next c (s.next c + 1) c) (end u c)),
        ),
      )

  stops_on : (s : StateValue) (c : ℕ) (fault : Fault) → Reached u s → Works u s w c → slice_get u.cells (s.next c) ≡ Some (Err fault) → (t : StateValue) × GoesOn s c t
  stops_on s c fault r works cell =
      let t : StateValue = record s { stopped = put s.stopped c true } in (
        t,
        (
          record {
            events = Stop w ∷ [];
            runs = runs_one u s t (Stop w) (few, (c, fault, works, cell, refl));
            own = (refl, tt);
            reached = reached_more u s t (Stop w) r (few, (c, fault, works, cell, refl));
            same = record { taken = refl; owner = refl; count = refl; holds = refl };
            on = omega arith;
            others = λ d ne. (refl, put_other s.stopped c true d ne);
          },
          inl (inr (put_same s.stopped c true c refl)),
        ),
      )

  cell_on : (s : StateValue) (c : ℕ) (x : CellValue) → Reached u s → Works u s w c → slice_get u.cells (s.next c) ≡ Some x → (t : StateValue) × GoesOn s c t
  cell_on s c (Ok value) r works cell = writes_on s c value r works cell
  cell_on s c (Err fault) r works cell = stops_on s c fault r works cell

  goes_on : (s : StateValue) (c : ℕ) → Reached u s → Works u s w c → (t : StateValue) × GoesOn s c t
  goes_on s c r works =
      ⊎_elim
      (λ there. cell_on s c there.0 r works there.2)
      (λ past. (let l = works.2 in let p = past.0 in absurd (omega arith)))
      (slice_get_cases u.cells (s.next c)).1

  -- events on, to the chunk's end or a fault
  ends_chunk : (most : ℕ) (s : StateValue) (c : ℕ) → end u c ≤ s.next c + most → Reached u s → Works u s w c → (t : StateValue) × On u w s c t × IsOver u t c
  ends_chunk zero s c le r works = absurd (let l = works.2 in omega arith)
  ends_chunk (suc most) s c le r works =
      let o = goes_on s c r works in
      ⊎_elim
      (λ (over : IsOver u o.0 c). (o.0, o.1.0, over))
      (λ (more : Works u o.0 w c × (o.0.next c ≡ s.next c + 1)).
      let f = ends_chunk most o.0 c (let e = more.1 in omega arith) o.1.0.reached more.0 in
      (f.0, on_then u w s o.0 f.0 c o.1.0 f.1, f.2))
      o.1.1

  -- whether the worker works on a chunk
  works_on : (s : StateValue) (c : ℕ) → Works u s w c ⊎ (¬ Works u s w c)
  works_on s c =
      ⊎_elim
      (λ (taken : c < s.taken).
      ⊎_elim
      (λ (own : s.owner c ≡ w).
      ⊎_elim
      (λ (next : s.next c < end u c).
      ⊎_elim (λ (e : s.stopped c ≡ true). inr (λ works. true≢false (sym e ∙ works.3))) (λ (e : s.stopped c ≡ false). inl (taken, own, next, e)) (cases_Bool (s.stopped c)))
      (λ (past : end u c ≤ s.next c). inr (λ works. (let l = works.2 in absurd (omega arith))))
      (cases_lt (s.next c) (end u c)))
      (λ (other : s.owner c ≢ w). inr (λ works. other works.1))
      (cases_eq (s.owner c) w))
      (λ (not_taken : s.taken ≤ c). inr (λ works. (let l = works.0 in absurd (omega arith))))
      (cases_lt c s.taken)

  found_below : (s : StateValue) (n : ℕ) → ((c : ℕ) × Works u s w c) ⊎ ((c : ℕ) → c < n → ¬ Works u s w c)
  found_below s zero = inr (λ c lt. absurd (omega arith))
  found_below s (suc n) =
      ⊎_elim
      (λ found. inl found)
      (λ none. ⊎_elim (λ works. inl (n, works)) (λ (not : ¬ Works u s w n). inr (λ c lt works. ⊎_elim (λ (e : c ≡ n). not (subst (λ (d : ℕ). Works u s w d) e works)) (λ (ne : c ≢ n). none c (omega arith) works) (cases_eq c n))) (works_on s n))
      (found_below s n)

  -- The worker has no chunk that has neither ended nor stopped. Each chunk is as it was, or is over now
  pub record Idle (s t : StateValue) : Type 0 where
    pub events : List Event
    pub runs : Runs u s events t
    pub own : OnlyOf w events
    pub reached : Reached u t
    pub same : SameTable s t
    pub each : (d : ℕ) → ((t.next d ≡ s.next d) × (t.stopped d ≡ s.stopped d)) ⊎ (Works u s w d × IsOver u t d × (s.next d ≤ t.next d))
    pub idle : (d : ℕ) → ¬ Works u t w d

  not_over : (t : StateValue) (c : ℕ) → IsOver u t c → ¬ Works u t w c
  not_over t c over works = ⊎_elim (λ (e : t.next c ≡ end u c). (let l = works.2 in absurd (omega arith))) (λ (e : t.stopped c ≡ true). true≢false (sym e ∙ works.3)) over

  pub idles : (s : StateValue) → IsSetup u → Reached u s → (t : StateValue) × Idle s t
  idles s is r =
      ⊎_elim
      (λ found.
      let c = found.0 in
      let f = ends_chunk (end u c) s c (omega arith) r found.1 in (
        f.0,
        record {
          events = f.1.events;
          runs = f.1.runs;
          own = f.1.own;
          reached = f.1.reached;
          same = f.1.same;
          each = λ d. ⊎_elim (λ (e : d ≡ c). inr (subst (λ (x : ℕ). Works u s w x × IsOver u f.0 x × (s.next x ≤ f.0.next x)) (sym e) (found.1, f.2, f.1.on))) (λ (ne : d ≢ c). inl (f.1.others d ne)) (cases_eq d c);
          idle = λ d works. ⊎_elim
              (λ (e : d ≡ c). not_over f.0 c f.2 (subst (λ (x : ℕ). Works u f.0 w x) e works))
              (λ (ne : d ≢ c).
              let o = f.1.others d ne in
              let taken = f.1.same.taken in
              let was : Works u s w d = ((let l = works.0 in omega arith), ap (λ (g : ℕ → ℕ). g d) (sym f.1.same.owner) ∙ works.1, (let l = works.2 in let e = o.0 in omega arith), sym o.1 ∙ works.3) in
              ne ((reached_facts u s is r).one_each w d c was found.1))
              (cases_eq d c);
        },
      ))
      (λ none. (s, record { events = []; runs = refl; own = tt; reached = r; same = same_table s; each = λ d. inl (refl, refl); idle = λ d works. none d works.0 works }))
      (found_below s s.taken)
