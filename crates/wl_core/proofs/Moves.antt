-- What the code of an event leaves is the event of the machine.
use Rattle.std.proofs.Common.{◌≡◌, ◌≢◌, ℕ, zero, suc, ◌+◌, ◌-◌, ◌*◌, ◌/◌, ◌^◌, ◌<◌, ◌≤◌, Bool, true, false, cond, ltb, List, [], ◌∷◌, ◌++◌, length, set, get_or, Option, None, Some, ℤ, Ok, Err, refl, sym, ap, ◌∙◌, subst, ⊎_elim, arith, Vec, Global, length-set}
use Rattle.std.proofs.lemmas.Bool.{cases_eq, cases_lt, lt-ltb, le-ltb, true≢false}
use Rattle.std.proofs.lemmas.List.{get_or-set_same, get_or-set_other}
use Rattle.std.specs.Prelude.{slice_get, slice_index, ◌&&◌}
use Rattle.sac_base.specs.declared.faults.Fault.{Fault}
use Rattle.wl_core.specs.declared.setup.Setup.{Setup}
use Rattle.wl_core.specs.declared.setup.CellResult.{CellResult}
use Rattle.wl_core.specs.declared.setup.CellResult.TheVariants.{Value, Faults, NotHeld}
use Rattle.wl_core.specs.declared.setup.Job.{Job}
use Rattle.wl_core.specs.declared.setup.Job.TheVariants.{Write as Store, Fold}
use Rattle.wl_core.specs.declared.state.State.{State}
use Rattle.std.proofs.Common.{Result}
use Rattle.wl_core.specs.declared.events.Event.{Event}
use Rattle.wl_core.specs.declared.events.Refused.{Refused}
use Rattle.wl_core.specs.declared.events.Event.TheVariants.{Draw, Keep, Release, Write, Stop}
use Rattle.wl_core.specs.Machine.{SetupValue, StateValue, IsFold, Works, combine, both, store, gather, put, chunks, first, sum_below}
use Rattle.wl_core.specs.Rows.{RowsValue, HoldsValue, PartialsValue, row_of, times_of, partial_of, SetsTimes}
use Rattle.wl_core.specs.Reading.{setup_of, state_of, written_by, row_if, stored_rows, RowsFor, IsSized, IsReached, cell_of, EnterFits, Enters, Moves, Answers}
use Rattle.wl_core.proofs.Functions.{put_is, put_id, put_same, put_other, sum-put, one-le}
use Rattle.wl_core.proofs.Kept.{apart, reached_more}
use Rattle.wl_core.proofs.Verdicts.{chunk_from, chunk_below}
use Rattle.wl_core.proofs.States.{facts}

put_item : (xs : List ℕ) (k x : ℕ) → k < length xs → slice_index (set xs k x) ≡ put (slice_index xs) k x
put_item xs k x lt = put_is (slice_index (set xs k x)) (slice_index xs) k x (get_or-set_same xs k x 0 lt) (λ i ne. get_or-set_other xs k i x 0 ne)

put_flag : (xs : List Bool) (k : ℕ) (x : Bool) → k < length xs → (λ (c : ℕ). get_or (set xs k x) c false) ≡ put (λ (c : ℕ). get_or xs c false) k x
put_flag xs k x lt = put_is (λ (c : ℕ). get_or (set xs k x) c false) (λ (c : ℕ). get_or xs c false) k x (get_or-set_same xs k x false lt) (λ i ne. get_or-set_other xs k i x false ne)

module _ (size : ℕ) where
  yes : (taken : ℕ) (owner next : ℕ → ℕ) (p : ℕ) → p / size < taken → p < next (p / size) → written_by size taken owner next p ≡ owner (p / size) ∷ []
  yes taken owner next p a b = let t : ltb (p / size) taken ≡ true = lt-ltb (p / size) taken a in let t' : ltb p (next (p / size)) ≡ true = lt-ltb p (next (p / size)) b in rw (t, t') refl

  no_taken : (taken : ℕ) (owner next : ℕ → ℕ) (p : ℕ) → taken ≤ p / size → written_by size taken owner next p ≡ []
  no_taken taken owner next p a = let t : ltb (p / size) taken ≡ false = le-ltb (p / size) taken a in rw t refl

  no_next : (taken : ℕ) (owner next : ℕ → ℕ) (p : ℕ) → next (p / size) ≤ p → written_by size taken owner next p ≡ []
  no_next taken owner next p a = let t : ltb p (next (p / size)) ≡ false = le-ltb p (next (p / size)) a in rw t (none (ltb (p / size) taken))
    where
      none : (b : Bool) → cond (b && false) (owner (p / size) ∷ []) [] ≡ []
      none true = refl
      none false = refl

  -- a chunk that was just taken has no written position
  drawn : (taken w : ℕ) (owner next : ℕ → ℕ) → ((p : ℕ) → p / size ≡ taken → taken * size ≤ p) → (p : ℕ) → written_by size (taken + 1) (put owner taken w) (put next taken (taken * size)) p ≡ written_by size taken owner next p
  drawn taken w owner next from p =
      let c : ℕ = p / size in
      ⊎_elim
      (λ (l : c < taken).
      let ne : c ≢ taken = (λ e. omega arith) in
      let o = put_other owner taken w c ne in
      let n = put_other next taken (taken * size) c ne in
      let t : ltb c (taken + 1) ≡ true = lt-ltb c (taken + 1) (omega arith) in
      let t' : ltb c taken ≡ true = lt-ltb c taken l in (λ j. cond ((t ∙ sym t') j && ltb p (n j)) (o j ∷ []) []))
      (λ (g : taken ≤ c). ⊎_elim
      (λ (e : c ≡ taken). no_next (taken + 1) (put owner taken w) (put next taken (taken * size)) p (let n = put_same next taken (taken * size) c e in let f = from p e in omega arith) ∙ sym (no_taken taken owner next p g))
      (λ (ne : c ≢ taken). no_taken (taken + 1) (put owner taken w) (put next taken (taken * size)) p (omega arith) ∙ sym (no_taken taken owner next p g))
      (cases_eq c taken))
      (cases_lt c taken)

  -- one position more is written
  wrote : (taken c q w : ℕ) (owner next : ℕ → ℕ) → c < taken → q / size ≡ c → q ≡ next c → owner c ≡ w → written_by size taken owner (put next c (q + 1)) ≡ put (written_by size taken owner next) q (written_by size taken owner next q ++ w ∷ [])
  wrote taken c q w owner next lt at is mine =
      let old = written_by size taken owner next in
      let empty : old q ≡ [] = no_next taken owner next q (let n = ap next at in omega arith) in
      put_is (written_by size taken owner (put next c (q + 1))) old q (old q ++ w ∷ [])
      (yes taken owner (put next c (q + 1)) q (omega arith) (let n = put_same next c (q + 1) (q / size) at in omega arith) ∙ (λ j. (ap owner at ∙ mine) j ∷ []) ∙ sym (ap (λ (l : List ℕ). l ++ w ∷ []) empty))
      (λ p ne. ⊎_elim
      (λ (e : p / size ≡ c).
      let n = put_same next c (q + 1) (p / size) e in let n' = ap next e in
      ⊎_elim
      (λ (l : p < q).
      let t : ltb p (put next c (q + 1) (p / size)) ≡ true = lt-ltb p (put next c (q + 1) (p / size)) (omega arith) in
      let t' : ltb p (next (p / size)) ≡ true = lt-ltb p (next (p / size)) (omega arith) in (λ j. cond (ltb (p / size) taken && (t ∙ sym t') j) (owner (p / size) ∷ []) []))
      (λ (g : q ≤ p). let ne' : p ≢ q = ne in no_next taken owner (put next c (q + 1)) p (omega arith) ∙ sym (no_next taken owner next p (omega arith)))
      (cases_lt p q))
      (λ (no : p / size ≢ c). ap (λ (n : ℕ). cond (ltb (p / size) taken && ltb p n) (owner (p / size) ∷ []) []) (put_other next c (q + 1) (p / size) no))
      (cases_eq (p / size) c))

module _ (b mid : State) (q w : ℕ) (x : List ℤ) where
  entered_stored : (j : Job) → Enters j b w q x mid → (mid.stored.width ≡ b.stored.width) × (mid.stored.count ≡ b.stored.count)
  entered_stored Store e = (e.0.width, e.0.count)
  entered_stored (Fold base op) e = (ap (λ (m : State). m.stored.width) e.1, ap (λ (m : State). m.stored.count) e.1)

  entered_sizes : (j : Job) → Enters j b w q x mid → (mid.partials.rows.width ≡ b.partials.rows.width) × (mid.partials.rows.count ≡ b.partials.rows.count)
  entered_sizes Store e = (ap (λ (m : State). m.partials.rows.width) e.1, ap (λ (m : State). m.partials.rows.count) e.1)
  entered_sizes (Fold base op) e = (e.0.width, e.0.count)

  entered_rest : (j : Job) → Enters j b w q x mid → mid ≡ record b { stored = mid.stored; partials = mid.partials }
  entered_rest Store e = e.1 ∙ (λ j. record b { stored = mid.stored; partials = sym (ap (λ (m : State). m.partials) e.1) j })
  entered_rest (Fold base op) e = e.1 ∙ (λ j. record b { stored = sym (ap (λ (m : State). m.stored) e.1) j; partials = mid.partials })

  pub entered_next : (j : Job) → Enters j b w q x mid → mid.next ≡ b.next
  entered_next j e = ap (λ (m : State). m.next) (entered_rest j e)

-- what is stored and combined, where a value is entered
module _ (b mid : State) (q w : ℕ) (x : List ℤ) (written : ℕ → List ℕ) (empty : written q ≡ []) where
  entered_rows : (j : Job) → Enters j b w q x mid → stored_rows j (put written q (written q ++ w ∷ [])) (row_of mid.stored) ≡ store j (stored_rows j written (row_of b.stored)) q (Some x)
  entered_rows Store e =
      let rows : row_of mid.stored ≡ put (row_of b.stored) q x = e.0.rows in
      put_is (stored_rows Store (put written q (written q ++ w ∷ [])) (row_of mid.stored)) (stored_rows Store written (row_of b.stored)) q (Some x)
      (λ j. row_if ((put_same written q (written q ++ w ∷ []) q refl ∙ ap (λ (l : List ℕ). l ++ w ∷ []) empty) j) ((ap (λ (f : ℕ → List ℤ). f q) rows ∙ put_same (row_of b.stored) q x q refl) j))
      (λ p ne. λ j. row_if (put_other written q (written q ++ w ∷ []) p ne j) ((ap (λ (f : ℕ → List ℤ). f p) rows ∙ put_other (row_of b.stored) q x p ne) j))
  entered_rows (Fold base op) e = refl

  entered_partials : (j : Job) → Enters j b w q x mid → partial_of mid.partials ≡ gather j (partial_of b.partials) w (Some x)
  entered_partials Store e = ap (λ (m : State). partial_of m.partials) e.1
  entered_partials (Fold base op) e = e.0.partials

-- a cell that is not held is passed over
passed_rows : (j : Job) (q w : ℕ) (written : ℕ → List ℕ) (row : ℕ → List ℤ) → IsFold j → stored_rows j (put written q (written q ++ w ∷ [])) row ≡ store j (stored_rows j written row) q None
passed_rows Store q w written row h = absurd h
passed_rows (Fold base op) q w written row h = refl

passed_partials : (j : Job) (w : ℕ) (partial : ℕ → Option (List ℤ)) → IsFold j → partial ≡ gather j partial w None
passed_partials Store w partial h = absurd h
passed_partials (Fold base op) w partial h = put_id partial w (both (combine op) (partial w) None) (sym (both-none (partial w)))
  where
    both-none : (a : Option (List ℤ)) → both (combine op) a None ≡ a
    both-none None = refl
    both-none (Some a) = refl

rows_same : (j : Job) (positions workers n n' m m' : ℕ) → n' ≡ n → m' ≡ m → RowsFor j positions workers n m → RowsFor j positions workers n' m'
rows_same Store positions workers n n' m m' e f h = e ∙ h
rows_same (Fold base op) positions workers n n' m m' e f h = f ∙ h

module _ (u : Setup) (b : State) (r : IsReached u b) where
  abbrev v : SetupValue
  v = setup_of u

  abbrev s : StateValue
  s = state_of (setup_of u) b

  pub draws : (w t : ℕ) (o n l : Vec ℕ Global) (st : Vec Bool Global) → w < u.workers → ((c : ℕ) → ¬ Works v s w c) → b.taken < chunks v → t ≡ b.taken + 1
      → o.items ≡ set b.owner.items b.taken w → n.items ≡ set b.next.items b.taken (first v b.taken) → st.items ≡ set b.stopped.items b.taken false → l.items ≡ set b.latest.items w b.taken
      → Moves u b (Draw w) (record b { taken = t; owner = o; next = n; stopped = st; latest = l }) (Ok tt)
  draws w t o n l st worker idle left t_is o_is n_is st_is l_is = (sized, (worker, idle, left, same))
    where
      m : ℕ
      m = b.taken

      b' : State
      b' = record b { taken = t; owner = o; next = n; stopped = st; latest = l }

      owner : slice_index o.items ≡ put s.owner m w
      owner = ap slice_index o_is ∙ put_item b.owner.items m w (let l = r.sized.owners in omega arith)

      next : slice_index n.items ≡ put s.next m (first v m)
      next = ap slice_index n_is ∙ put_item b.next.items m (first v m) (let l = r.sized.nexts in omega arith)

      stopped : (λ (c : ℕ). get_or st.items c false) ≡ put s.stopped m false
      stopped = ap (λ (xs : List Bool). λ (c : ℕ). get_or xs c false) st_is ∙ put_flag b.stopped.items m false (let l = r.sized.stops in omega arith)

      written : written_by v.size t (slice_index o.items) (slice_index n.items) ≡ s.written
      written = (λ j. written_by v.size (t_is j) (owner j) (next j)) ∙ (λ j p. drawn v.size m w s.owner s.next (λ p e. let f = chunk_from v r.setup.size p in let e' = ap (first v) e in omega arith) p j)

      same : state_of (setup_of u) b' ≡ record s { taken = m + 1; owner = put s.owner m w; next = put s.next m (first v m); stopped = put s.stopped m false }
      same = λ j. record s { taken = t_is j; owner = owner j; next = next j; stopped = stopped j; written = written j; stored = stored_rows u.job (written j) (row_of b.stored) }

      last' : (x c : ℕ) → Works v (record s { taken = m + 1; owner = put s.owner m w; next = put s.next m (first v m); stopped = put s.stopped m false }) x c → slice_index l.items x ≡ c
      last' x c k = ⊎_elim
          (λ (e : c ≡ m). let x_is : x ≡ w = sym k.1 ∙ put_same s.owner m w c e in ap (λ (xs : List ℕ). slice_index xs x) l_is ∙ ap (slice_index (set b.latest.items w m)) x_is ∙ get_or-set_same b.latest.items w m 0 (let n = r.sized.latest in omega arith) ∙ sym e)
          (λ (ne : c ≢ m).
          let n' = put_other s.next m (first v m) c ne in
          let old : Works v s x c = (let y = k.0 in omega arith, sym (put_other s.owner m w c ne) ∙ k.1, (let y = k.2 in omega arith), sym (put_other s.stopped m false c ne) ∙ k.3) in
          let other : x ≢ w = (λ e. idle c (subst (λ (y : ℕ). Works v s y c) e old)) in
          ap (λ (xs : List ℕ). slice_index xs x) l_is ∙ get_or-set_other b.latest.items w x m 0 other ∙ r.sized.last x c old)
          (cases_eq c m)

      sized : IsSized (setup_of u) b'
      sized = record {
        owners = ap (λ (xs : List ℕ). length xs) o_is ∙ length-set b.owner.items m w ∙ r.sized.owners;
        nexts = ap (λ (xs : List ℕ). length xs) n_is ∙ length-set b.next.items m (first v m) ∙ r.sized.nexts;
        stops = ap (λ (xs : List Bool). length xs) st_is ∙ length-set b.stopped.items m false ∙ r.sized.stops;
        latest = ap (λ (xs : List ℕ). length xs) l_is ∙ length-set b.latest.items w m ∙ r.sized.latest;
        counts = r.sized.counts;
        held = r.sized.held;
        workers = r.sized.workers;
        buffers = r.sized.buffers;
        widths = r.sized.widths;
        rows = r.sized.rows;
        last = λ x c k. last' x c (subst (λ (y : StateValue). Works v y x c) same k);
        totals = r.sized.totals;
      }

  pub stops_chunk : (w c : ℕ) (fault : Fault) (st : Vec Bool Global) → w < u.workers → Works v s w c → slice_get v.cells (s.next c) ≡ Some (Err fault) → st.items ≡ set b.stopped.items c true
      → Moves u b (Stop w) (record b { stopped = st }) (Ok tt)
  stops_chunk w c fault st worker works cell st_is = (sized, (worker, (c, fault, works, cell, same)))
    where
      b' : State
      b' = record b { stopped = st }

      few : b.taken ≤ chunks v
      few = (facts u b r).taken_few

      stopped : (λ (d : ℕ). get_or st.items d false) ≡ put s.stopped c true
      stopped = ap (λ (xs : List Bool). λ (d : ℕ). get_or xs d false) st_is ∙ put_flag b.stopped.items c true (let l = r.sized.stops in let t = works.0 in let f = few in omega arith)

      same : state_of (setup_of u) b' ≡ record s { stopped = put s.stopped c true }
      same = λ j. record s { stopped = stopped j }

      last' : (x d : ℕ) → Works v (record s { stopped = put s.stopped c true }) x d → slice_index b.latest.items x ≡ d
      last' x d k = ⊎_elim
          (λ (e : d ≡ c). absurd (true≢false (sym (put_same s.stopped c true d e) ∙ k.3)))
          (λ (ne : d ≢ c). r.sized.last x d (k.0, k.1, k.2, sym (put_other s.stopped c true d ne) ∙ k.3))
          (cases_eq d c)

      sized : IsSized (setup_of u) b'
      sized = record {
        owners = r.sized.owners;
        nexts = r.sized.nexts;
        stops = ap (λ (xs : List Bool). length xs) st_is ∙ length-set b.stopped.items c true ∙ r.sized.stops;
        latest = r.sized.latest;
        counts = r.sized.counts;
        held = r.sized.held;
        workers = r.sized.workers;
        buffers = r.sized.buffers;
        widths = r.sized.widths;
        rows = r.sized.rows;
        last = λ x d k. last' x d (subst (λ (y : StateValue). Works v y x d) same k);
        totals = r.sized.totals;
      }

  -- the position that a worker writes next
  pub next_position : (w c : ℕ) → Works v s w c → (s.next c < length v.cells) × (s.next c / v.size ≡ c) × (s.written (s.next c) ≡ [])
  next_position w c works =
      let h = facts u b r in
      let q = s.next c in
      let within = h.within c works.0 in
      let below : q < length v.cells = (let x = works.2 in omega arith) in
      let at : q / v.size ≡ c = apart v (q / v.size) c q (chunk_from v r.setup.size q) (chunk_below v r.setup.size q below) within.0 works.2 in
      (below, at, no_next v.size b.taken s.owner s.next q (let e = ap s.next at in omega arith))

  writes_by : (w c : ℕ) (value : Option (List ℤ)) (n : Vec ℕ Global) (stored : RowsValue) (partials : PartialsValue) → w < u.workers → Works v s w c → slice_get v.cells (s.next c) ≡ Some (Ok value) → n.items ≡ set b.next.items c (s.next c + 1)
      → (stored.width ≡ b.stored.width) × (stored.count ≡ b.stored.count) → (partials.rows.width ≡ b.partials.rows.width) × (partials.rows.count ≡ b.partials.rows.count)
      → stored_rows u.job (put s.written (s.next c) (s.written (s.next c) ++ w ∷ [])) (row_of stored) ≡ store u.job s.stored (s.next c) value
      → partial_of partials ≡ gather u.job s.partial w value → Moves u b (Write w) (record b { next = n; stored = stored; partials = partials }) (Ok tt)
  writes_by w c value n stored partials worker works cell n_is stored_same partials_same rows_are partials_are = (sized, (worker, (c, value, works, cell, same)))
    where
      q : ℕ
      q = s.next c

      b' : State
      b' = record b { next = n; stored = stored; partials = partials }

      t : StateValue
      t = record s { next = put s.next c (q + 1); written = put s.written q (s.written q ++ w ∷ []); stored = store u.job s.stored q value; partial = gather u.job s.partial w value }

      next : slice_index n.items ≡ put s.next c (q + 1)
      next = ap slice_index n_is ∙ put_item b.next.items c (q + 1) (let l = r.sized.nexts in let x = works.0 in let f = (facts u b r).taken_few in omega arith)

      written : written_by v.size b.taken s.owner (slice_index n.items) ≡ put s.written q (s.written q ++ w ∷ [])
      written = ap (written_by v.size b.taken s.owner) next ∙ wrote v.size b.taken c q w s.owner s.next works.0 (next_position w c works).1 refl works.1

      same : state_of (setup_of u) b' ≡ t
      same = λ j. record s { next = next j; written = written j; stored = (ap (λ (f : ℕ → List ℕ). stored_rows u.job f (row_of stored)) written ∙ rows_are) j; partial = partials_are j }

      last' : (x d : ℕ) → Works v t x d → slice_index b.latest.items x ≡ d
      last' x d k = r.sized.last x d (
        k.0,
        k.1,
        ⊎_elim
            (λ (e : d ≡ c). let y = put_same s.next c (q + 1) d e in let z = ap s.next e in let k2 = k.2 in omega arith)
            (λ (ne : d ≢ c). let y = put_other s.next c (q + 1) d ne in let k2 = k.2 in omega arith) (cases_eq d c),
        k.3,
      )

      sized : IsSized (setup_of u) b'
      sized = record {
        owners = r.sized.owners;
        nexts = ap (λ (xs : List ℕ). length xs) n_is ∙ length-set b.next.items c (q + 1) ∙ r.sized.nexts;
        stops = r.sized.stops;
        latest = r.sized.latest;
        counts = r.sized.counts;
        held = r.sized.held;
        workers = r.sized.workers;
        buffers = r.sized.buffers;
        widths = λ p x at. let y = r.sized.widths p x at in (y.0 ∙ sym stored_same.0, y.1 ∙ sym partials_same.0);
        rows = rows_same u.job (length v.cells) u.workers b.stored.count stored.count b.partials.rows.count partials.rows.count stored_same.1 partials_same.1 r.sized.rows;
        last = λ x d k. last' x d (subst (λ (y : StateValue). Works v y x d) same k);
        totals = r.sized.totals;
      }

  pub writes_value : (w c : ℕ) (x : List ℤ) (mid : State) (n : Vec ℕ Global) → w < u.workers → Works v s w c → slice_get v.cells (s.next c) ≡ Some (Ok (Some x)) → Enters u.job b w (s.next c) x mid → n.items ≡ set mid.next.items c (s.next c + 1)
      → Moves u b (Write w) (record mid { next = n }) (Ok tt)
  writes_value w c x mid n worker works cell enters n_is =
      let q = s.next c in
      let empty = (next_position w c works).2 in
      let rest = entered_rest b mid q w x u.job enters in
      subst (λ (m : State). Moves u b (Write w) (record m { next = n }) (Ok tt)) (sym rest)
      (writes_by w c (Some x) n mid.stored mid.partials worker works cell (n_is ∙ ap (λ (m : State). set m.next.items c (q + 1)) rest) (entered_stored b mid q w x u.job enters) (entered_sizes b mid q w x u.job enters)
      (entered_rows b mid q w x s.written empty u.job enters) (entered_partials b mid q w x s.written empty u.job enters))

  pub passes_over : (w c : ℕ) (n : Vec ℕ Global) → w < u.workers → Works v s w c → slice_get v.cells (s.next c) ≡ Some (Ok None) → n.items ≡ set b.next.items c (s.next c + 1) → Moves u b (Write w) (record b { next = n }) (Ok tt)
  passes_over w c n worker works cell n_is =
      let fold = r.setup.held (s.next c) cell in
      writes_by w c None n b.stored b.partials worker works cell n_is (refl, refl) (refl, refl) (passed_rows u.job (s.next c) w s.written (row_of b.stored) fold) (passed_partials u.job w s.partial fold)

  -- the count of d becomes x, and w holds d n times
  recounts : (w d n x : ℕ) (holds : HoldsValue) (held counts : Vec ℕ Global) → w < u.workers → d < length u.counts.items → SetsTimes b.holds holds w d n → held.items ≡ set b.held.items w (sum_below (put (s.holds w) d n) (length u.counts.items)) → counts.items ≡ set b.counts.items d x
      → IsSized (setup_of u) (record b { holds = holds; held = held; counts = counts }) × (state_of (setup_of u) (record b { holds = holds; held = held; counts = counts }) ≡ record s { count = put s.count d x; holds = put s.holds w (put (s.holds w) d n) })
  recounts w d n x holds held counts worker buffer sets held_is counts_is = (sized, λ j. record s { count = count j; holds = sets.times j })
    where
      count : slice_index counts.items ≡ put s.count d x
      count = ap slice_index counts_is ∙ put_item b.counts.items d x (let l = r.sized.counts in omega arith)

      total : (y : ℕ) → y < u.workers → slice_index held.items y ≡ sum_below (times_of holds y) (length u.counts.items)
      total y lt = ⊎_elim
          (λ (e : y ≡ w).
          ap (λ (xs : List ℕ). slice_index xs y) held_is ∙ ap (slice_index (set b.held.items w (sum_below (put (s.holds w) d n) (length u.counts.items)))) e ∙ get_or-set_same b.held.items w _ 0 (let l = r.sized.held in omega arith)
          ∙ sym (ap (λ (f : ℕ → ℕ → ℕ). sum_below (f y) (length u.counts.items)) sets.times ∙ ap (λ (f : ℕ → ℕ). sum_below f (length u.counts.items)) (put_same s.holds w (put (s.holds w) d n) y e)))
          (λ (ne : y ≢ w).
          ap (λ (xs : List ℕ). slice_index xs y) held_is ∙ get_or-set_other b.held.items w y _ 0 ne ∙ r.sized.totals y lt
          ∙ sym (ap (λ (f : ℕ → ℕ → ℕ). sum_below (f y) (length u.counts.items)) sets.times ∙ ap (λ (f : ℕ → ℕ). sum_below f (length u.counts.items)) (put_other s.holds w (put (s.holds w) d n) y ne)))
          (cases_eq y w)

      sized : IsSized (setup_of u) (record b { holds = holds; held = held; counts = counts })
      sized = record {
        owners = r.sized.owners;
        nexts = r.sized.nexts;
        stops = r.sized.stops;
        latest = r.sized.latest;
        counts = ap (λ (xs : List ℕ). length xs) counts_is ∙ length-set b.counts.items d x ∙ r.sized.counts;
        held = ap (λ (xs : List ℕ). length xs) held_is ∙ length-set b.held.items w _ ∙ r.sized.held;
        workers = sets.workers ∙ r.sized.workers;
        buffers = sets.buffers ∙ r.sized.buffers;
        widths = r.sized.widths;
        rows = r.sized.rows;
        last = r.sized.last;
        totals = total;
      }

  pub keeps : (w d n h x : ℕ) (holds : HoldsValue) (held counts : Vec ℕ Global) → w < u.workers → d < length u.counts.items → h < 2 ^ 56 → h ≡ slice_index b.held.items w → n ≡ times_of b.holds w d → x ≡ slice_index b.counts.items d
      → SetsTimes b.holds holds w d (n + 1) → held.items ≡ set b.held.items w (h + 1) → counts.items ≡ set b.counts.items d (x + 1) → Moves u b (Keep w d) (record b { holds = holds; held = held; counts = counts }) (Ok tt)
  keeps w d n h x holds held counts worker buffer few h_is n_is x_is sets held_is counts_is =
      let total = r.sized.totals w worker in
      let m = sum-put (s.holds w) d (n + 1) (length u.counts.items) buffer in
      let e : h + 1 ≡ sum_below (put (s.holds w) d (n + 1)) (length u.counts.items) = omega arith in
      let k = recounts w d (n + 1) (x + 1) holds held counts worker buffer sets (held_is ∙ ap (λ (y : ℕ). set b.held.items w y) e) counts_is in
      (k.0, (worker, buffer, omega arith, k.1 ∙ (λ j. record s { count = put s.count d (x_is j + 1); holds = put s.holds w (put (s.holds w) d (n_is j + 1)) })))

  pub releases : (w d n h x : ℕ) (holds : HoldsValue) (held counts : Vec ℕ Global) → w < u.workers → d < length u.counts.items → n ≢ 0 → h ≡ slice_index b.held.items w → n ≡ times_of b.holds w d → x ≡ slice_index b.counts.items d
      → SetsTimes b.holds holds w d (n - 1) → held.items ≡ set b.held.items w (h - 1) → counts.items ≡ set b.counts.items d (x - 1) → Moves u b (Release w d) (record b { holds = holds; held = held; counts = counts }) (Ok tt)
  releases w d n h x holds held counts worker buffer some h_is n_is x_is sets held_is counts_is =
      let total = r.sized.totals w worker in
      let m = sum-put (s.holds w) d (n - 1) (length u.counts.items) buffer in
      let e : h - 1 ≡ sum_below (put (s.holds w) d (n - 1)) (length u.counts.items) = omega arith in
      let k = recounts w d (n - 1) (x - 1) holds held counts worker buffer sets (held_is ∙ ap (λ (y : ℕ). set b.held.items w y) e) counts_is in
      (k.0, (worker, buffer, omega arith, k.1 ∙ (λ j. record s { count = put s.count d (x_is j - 1); holds = put s.holds w (put (s.holds w) d (n_is j - 1)) })))

sum-le : (f : ℕ → ℕ) (n m : ℕ) → ((i : ℕ) → i < n → f i ≤ m) → sum_below f n ≤ n * m
sum-le f zero m h = omega arith
sum-le f (suc n) m h = let a = sum-le f n m (λ i lt. h i (omega arith)) in let b = h n (omega arith) in let e : suc n * m ≡ n * m + m = omega arith in omega arith

module _ (u : Setup) (b : State) (r : IsReached u b) (w d : ℕ) (worker : w < u.workers) (buffer : d < length u.counts.items) where
  -- the holds of one buffer are among all of the worker
  pub times_few : times_of b.holds w d ≤ slice_index b.held.items w
  times_few = let t = r.sized.totals w worker in let o = one-le (times_of b.holds w) d (length u.counts.items) buffer in omega arith

  -- a count never leaves its range
  pub count_small : slice_index b.counts.items d ≤ 2 ^ 63
  count_small =
      let h = facts u b r in
      let c = h.counts d buffer in
      let o = (r.setup.counts d buffer).1 in
      let few : sum_below (λ x. times_of b.holds x d) u.workers ≤ u.workers * 2 ^ 56 = sum-le (λ x. times_of b.holds x d) u.workers (2 ^ 56) (λ x lt. let f = h.few x lt in let k = one-le (times_of b.holds x) d (length u.counts.items) buffer in omega arith) in
      let most = r.setup.workers in omega arith

  pub count_some : 1 ≤ slice_index b.counts.items d
  count_some = let h = facts u b r in let c = h.counts d buffer in let o = (r.setup.counts d buffer).0 in omega arith

-- an event leads from a reached state to a reached state
pub answered : (u : Setup) (old new : State) (e : Event) (x : Result (Unit {0}) Refused) → IsReached u old → Moves u old e new x → IsReached u new × Answers u old e new x
answered u old new e (Ok done) r m = (record { setup = r.setup; sized = m.0; reached = reached_more (setup_of u) (state_of (setup_of u) old) (state_of (setup_of u) new) e r.reached m.1 }, m.1)
answered u old new e (Err reason) r m = (subst (λ (b : State). IsReached u b) (sym m.0) r, m)

-- there is a row for the value of a position
pub enter_fits : (j : Job) (b : State) (positions workers w q : ℕ) (x : List ℤ) → RowsFor j positions workers b.stored.count b.partials.rows.count → w < workers → q < positions → (length x ≡ b.stored.width) × (length x ≡ b.partials.rows.width) → EnterFits j b w q x
enter_fits Store b positions workers w q x rows worker below fits = (omega arith, fits.0)
enter_fits (Fold base op) b positions workers w q x rows worker below fits = (omega arith, fits.1)

pub is_value : (x : CellResult) → ((fault : Fault) → x ≡ Faults fault → ⊥) → (value : Option (List ℤ)) × (cell_of x ≡ Ok value)
is_value (Value value) not = (Some value.items, refl)
is_value (Faults fault) not = absurd (not fault refl)
is_value NotHeld not = (None, refl)

pub held_cell : (value : Vec ℤ Global) (x : List ℤ) → x ≡ value.items → Some (cell_of (Value value)) ≡ Some (Ok (Some x))
held_cell value x e = λ j. Some (Ok (Some (sym e j)))
