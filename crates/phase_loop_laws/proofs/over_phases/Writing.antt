-- Cells that are written over a buffer one after another.
use Rattle.std.proofs.Common.{◌≡◌, ℕ, suc, ◌+◌, ◌*◌, ◌<◌, ◌≤◌, Bool, true, false, cond, eqb, List, [], ◌∷◌, ◌++◌, map, length, get_or, take, drop, ℤ, Option, Some, None, Ok, Err, refl, ap, ◌∙◌, sym, subst, arith}
use Rattle.std.specs.List.{flat_map}
use Rattle.std.proofs.lemmas.Bool.{eqb-true, eq-eqb}
use Rattle.std.proofs.lemmas.List.{append_assoc, length-set}
use Rattle.sac_base.specs.declared.form.Form.{Form}
use Rattle.sac_base.specs.Arrays.{ArrayValue}
use Rattle.sac_base.specs.Operators.{all_of, with_first}
use Rattle.sac_base.specs.Outcomes.{Ends}
use Rattle.core_ir.specs.Meaning.{elements_of}
use Rattle.counted_code.specs.Loops.{Source, cell_does, cells_do, Old, write_cell, written_at}
use Rattle.counted_code.specs.Values.{Buffer, Heap, Ended, Done, Failed, give, go_on, buffer_at, count_of, cells_of, with_cells}
use Rattle.counted_laws.proofs.Held.{buffer_set}
use Rattle.phase_loop_laws.proofs.mark_laws.Places.{same_later, written_left, written_next, all_written}
use Rattle.phase_laws.specs.Spending.{total}
use Rattle.phase_loop_laws.specs.Ordered.{Passed}
use Rattle.phase_loop_laws.proofs.Cells.{EndsAs}
use Rattle.phase_loop_laws.specs.over_phases.Statements.{IsElement, PassedOver}

-- ---- one buffer with other cells

module _ (h : Heap) (b : ℕ) (xs : List ℤ) (live : 1 ≤ count_of h b) where
  abbrev new : Buffer
  new = record { count = count_of h b; cells = xs }

  own_cells : cells_of (with_cells h b xs) b ≡ xs
  own_cells = ap (λ (x : Buffer). x.cells) (buffer_set h b b new live) ∙ ap (λ t. (cond {A = Buffer} t new (buffer_at h b)).cells) (eq-eqb b b refl)

  other_buffer : (c : ℕ) → eqb b c ≡ false → buffer_at (with_cells h b xs) c ≡ buffer_at h c
  other_buffer c e = buffer_set h b c new live ∙ ap (λ t. cond {A = Buffer} t new (buffer_at h c)) e

  same_count : (c : ℕ) → count_of (with_cells h b xs) c ≡ count_of h c
  same_count c = ap (λ (x : Buffer). x.count) (buffer_set h b c new live) ∙ go (eqb b c) refl
    where
      go : (same : Bool) → eqb b c ≡ same → (cond {A = Buffer} same new (buffer_at h c)).count ≡ count_of h c
      go true e = ap (count_of h) (eqb-true b c e)
      go false e = refl

  same_places : length (with_cells h b xs).buffers ≡ length h.buffers
  same_places = length-set h.buffers b new

-- ---- the cells

module _ (b : ℕ) (h : Heap) (sole : count_of h b ≡ 1) where
  -- from a place on the buffer is as it was, and so are the others
  pub record Before (p : ℕ) (k : Heap) : Type 0 where
    pub counts : (c : ℕ) → count_of k c ≡ count_of h c
    pub buffers : (c : ℕ) → eqb b c ≡ false → 1 ≤ count_of h c → buffer_at k c ≡ buffer_at h c
    pub left : drop p (cells_of k b) ≡ drop p (cells_of h b)
    pub long : length (cells_of k b) ≡ length (cells_of h b)

  -- what a run of the cells from a place on ends with, by what they come to
  abbrev pub EndsWritten : ℕ → ℕ → Heap → Ended (List (Option ArrayValue)) → Ends (List (Option ArrayValue)) → Type 0
  EndsWritten p n k (Done ds l) (Ok cs) = (ds ≡ cs) × PassedOver b (take p (cells_of k b) ++ flat_map elements_of cs) n k l
  EndsWritten p n k (Failed f q) (Err g) = (f ≡ g) × (q ≡ k.phases)
  EndsWritten p n k _ _ = ⊥

  -- a cell that has passed, and then is written
  module _ (p : ℕ) (a : ArrayValue) (n : ℕ) (k l : Heap) (one : length a.cells ≡ 1) (before : Before p k) (passed : Passed n k l) (inside : p < length (cells_of k b)) where
    live_before : 1 ≤ count_of k b
    live_before = let c = before.counts b in omega (arith, c, sole)

    live : 1 ≤ count_of l b
    live = let c = passed.counts b in omega (arith, c, live_before)

    same : cells_of l b ≡ cells_of k b
    same = ap (λ (x : Buffer). x.cells) (passed.buffers b live_before)

    abbrev new_cells : List ℤ
    new_cells = written_at (p * length a.cells) a.cells (cells_of l b)

    abbrev pub after : Heap
    after = with_cells l b new_cells

    here : cells_of after b ≡ new_cells
    here = own_cells l b new_cells live

    there : (take (suc p) new_cells ≡ take p (cells_of l b) ++ a.cells) × (length new_cells ≡ length (cells_of l b))
    there = let e = ap length same in written_next p a.cells (cells_of l b) one (omega (arith, e, inside))

    pub still_long : length (cells_of after b) ≡ length (cells_of k b)
    still_long = ap length here ∙ there.1 ∙ ap length same

    taken_so_far : take (suc p) (cells_of after b) ≡ take p (cells_of k b) ++ a.cells
    taken_so_far = ap (take (suc p)) here ∙ there.0 ∙ ap (λ xs. take p xs ++ a.cells) same

    live_there : (c : ℕ) → 1 ≤ count_of h c → 1 ≤ count_of k c
    live_there c le = let e = before.counts c in omega (arith, e, le)

    pub next : Before (suc p) after
    next = record {
      counts = λ c. same_count l b new_cells live c ∙ passed.counts c ∙ before.counts c;
      buffers = λ c e le. other_buffer l b new_cells live c e ∙ passed.buffers c (live_there c le) ∙ before.buffers c e le;
      left = ap (drop (suc p)) here ∙ written_left p a.cells (cells_of l b) one ∙ ap (drop (suc p)) same ∙ same_later p (cells_of k b) (cells_of h b) before.left;
      long = still_long ∙ before.long;
    }

    -- what passes after it
    with_rest : (rest : List ℤ) (n2 : ℕ) (z : Heap) → PassedOver b (take (suc p) (cells_of after b) ++ rest) n2 after z → PassedOver b (take p (cells_of k b) ++ (a.cells ++ rest)) (n + n2) k z
    with_rest rest n2 z later = record {
      taken = summed k.taken l.taken z.taken passed.taken later.taken;
      given = summed k.given l.given z.given passed.given later.given;
      reused = later.reused ∙ passed.reused;
      phases = later.phases ∙ passed.phases;
      places = summed (length k.buffers) (length l.buffers) (length z.buffers) passed.places (later.places ∙ ap (λ x. x + n2) (same_places l b new_cells live));
      counts = λ c. later.counts c ∙ same_count l b new_cells live c ∙ passed.counts c;
      written = later.written ∙ ap (λ xs. xs ++ rest) taken_so_far ∙ append_assoc (take p (cells_of k b)) a.cells rest;
      buffers = λ c e le. later.buffers c e (live_after c le) ∙ other_buffer l b new_cells live c e ∙ passed.buffers c le;
    }
      where
        summed : (x y z : ℕ) → y ≡ x + n → z ≡ y + n2 → z ≡ x + (n + n2)
        summed x y z e f = omega (arith, e, f)

        live_after : (c : ℕ) → 1 ≤ count_of k c → 1 ≤ count_of after c
        live_after c le = let e = same_count l b new_cells live c in let f = passed.counts c in omega (arith, e, f, le)

    pub cell_before : (n2 : ℕ) (m : Ended (List (Option ArrayValue))) (r : Ends (List (Option ArrayValue))) → EndsWritten (suc p) n2 after m r → EndsWritten p (n + n2) k (go_on m (λ ds. give (Some a ∷ ds))) (with_first (Some a) r)
    cell_before n2 (Done ds z) (Ok cs) r = (ap (λ xs. Some a ∷ xs) r.0, with_rest (flat_map elements_of cs) n2 z r.1)
    cell_before n2 (Failed f q) (Err g) r = (r.0, r.1 ∙ passed.phases)
    cell_before n2 (Done ds z) (Err g) r = elim r [ ]
    cell_before n2 (Failed f q) (Ok cs) r = elim r [ ]

  module _ (form : Form) (source : List ℤ → Option Source) (cell : List ℤ → Ends (Option ArrayValue)) (takes : List ℤ → ℕ) where
    -- at this place an index has its cell, in each heap in which the place was not written
    abbrev pub IsReady : ℕ → List ℤ → Type 0
    IsReady p w = ((k : Heap) → Before p k → EndsAs (takes w) k (cell_does form (source w) k) (cell w)) × IsElement (cell w)

    abbrev pub AreReady : ℕ → List (List ℤ) → Type 0
    AreReady p [] = Unit {0}
    AreReady p (w ∷ ws) = IsReady p w × AreReady (suc p) ws

    pub ready_each : (ws : List (List ℤ)) (p : ℕ) → ((i q : ℕ) → q ≡ p + i → i < length ws → IsReady q (get_or ws i [])) → AreReady p ws
    ready_each [] p each = tt
    ready_each (w ∷ ws) p each = (each 0 p (omega arith) (omega arith), ready_each ws (suc p) (λ i q e lt. each (suc i) q (omega (arith, e)) (omega (arith, lt))))

    pub cells_written : (ws : List (List ℤ)) (p : ℕ) (k : Heap) → AreReady p ws → Before p k → length (cells_of k b) ≡ p + length ws → EndsWritten p (total takes ws) k (cells_do form source (write_cell (Old b)) p ws k) (all_of (map cell ws))
    cells_written [] p k ready before long = (
      refl,
      record {
        taken = none_more k.taken;
        given = none_more k.given;
        reused = refl;
        phases = refl;
        places = none_more (length k.buffers);
        counts = λ c. refl;
        written = all_written p (cells_of k b) long;
        buffers = λ c e le. refl;
      },
    )
      where
        none_more : (n : ℕ) → n ≡ n + 0
        none_more n = omega arith
    cells_written (w ∷ ws) p k ready before long =
        go (cell_does form (source w) k) (cell w) (ready.0.0 k before) ready.0.1 (λ l now far. cells_written ws (suc p) l ready.1 now far)
      where
        go : (m : Ended (Option ArrayValue)) (c : Ends (Option ArrayValue)) → EndsAs (takes w) k m c → IsElement c
            → ((l : Heap) → Before (suc p) l → length (cells_of l b) ≡ suc p + length ws → EndsWritten (suc p) (total takes ws) l (cells_do form source (write_cell (Old b)) (suc p) ws l) (all_of (map cell ws)))
            → EndsWritten p (takes w + total takes ws) k (go_on m (λ d l. go_on (cells_do form source (write_cell (Old b)) (suc p) ws (write_cell (Old b) p d l)) (λ ds. give (d ∷ ds)))) (all_of (c ∷ map cell ws))
        go (Done d l) (Ok (Some a)) r one later =
            let inside : p < length (cells_of k b) = omega (arith, long) in
            let l2 = after p a (takes w) k l one before r.1 inside in
            let far = still_long p a (takes w) k l one before r.1 inside in
            let rest = later l2 (next p a (takes w) k l one before r.1 inside) (omega (arith, far, long)) in
            subst (λ (x : Option ArrayValue). EndsWritten p (takes w + total takes ws) k (go_on (cells_do form source (write_cell (Old b)) (suc p) ws (write_cell (Old b) p x l)) (λ ds. give (x ∷ ds))) (all_of (Ok (Some a) ∷ map cell ws))) (sym r.0)
            (cell_before p a (takes w) k l one before r.1 inside (total takes ws) (cells_do form source (write_cell (Old b)) (suc p) ws l2) (all_of (map cell ws)) rest)
        go (Done d l) (Ok None) r one later = elim one [ ]
        go (Failed f q) (Err g) r one later = r
        go (Done d l) (Err g) r one later = elim r [ ]
        go (Failed f q) (Ok c) r one later = elim r [ ]
