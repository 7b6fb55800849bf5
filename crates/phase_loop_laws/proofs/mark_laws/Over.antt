-- A loop that writes its cells over an array, whose reference is the only one, gives what its core gives, if each cell reads of the array its own
-- element alone.
use Rattle.std.proofs.Common.{◌≡◌, ℕ, suc, ◌+◌, ◌*◌, ◌<◌, ◌≤◌, Bool, true, false, cond, eqb, List, [], ◌∷◌, ◌++◌, map, length, take, drop, ℤ, Option, Some, None, Ok, Err, refl, ap, ◌∙◌, sym, subst, arith}
use Rattle.std.specs.Prelude.{if◌then◌else◌}
use Rattle.std.specs.List.{flat_map}
use Rattle.std.proofs.lemmas.Bool.{eqb-true, eq-eqb}
use Rattle.std.proofs.lemmas.List.{append_assoc}
use Rattle.std.proofs.lemmas.Slice.Eq.{bytes_eq-Decides}
use Rattle.sac_base.specs.declared.faults.FaultKind.TheVariants.{F6}
use Rattle.sac_base.specs.declared.form.Form.{Form}
use Rattle.sac_base.specs.Arrays.{ArrayValue, IsFull, size, same_base, same_shape}
use Rattle.sac_base.specs.Operators.{all_of, with_first}
use Rattle.sac_base.specs.Outcomes.{Ends, and_then, fault}
use Rattle.sac_base.specs.Places.{vector_at}
use Rattle.sac_base.specs.WithLoops.{fits_form}
use Rattle.core_ir.specs.Meaning.{elements_of, one}
use Rattle.core_facts.proofs.Shapes.{ok_same, no_ok}
use Rattle.core_facts.proofs.Sound.{then_ok}
use Rattle.core_loops.proofs.index_facts.Members.{and_both}
use Rattle.counted_code.specs.Values.{Buffer, Heap, Ref, Ended, Done, Failed, give, go_on, count_of, cells_of, with_cells}
use Rattle.counted_code.specs.Loops.{Source, cell_does, cells_do, Old, Inside, write_cell, written_at}
use Rattle.counted_laws.specs.Simulation.{Owns, SameCells, Matches, MatchesOne, MatchesPure}
use Rattle.counted_laws.proofs.Held.{buffer_set, recelled_balance}
use Rattle.counted_laws.proofs.Cells.{formed, Linked, cells_match, with_new, recelled_count}
use Rattle.phase_loop_laws.proofs.mark_laws.Places.{From, same_later, written_left, written_next, all_written}

-- ---- one buffer with other cells

other_cells : (h : Heap) (b c : ℕ) (xs : List ℤ) → 1 ≤ count_of h b → (same : Bool) → eqb b c ≡ same → cells_of (with_cells h b xs) c ≡ cond same xs (cells_of h c)
other_cells h b c xs live same e = ap (λ (x : Buffer). x.cells) (buffer_set h b c (record { count = count_of h b; cells = xs }) live) ∙ go same e
  where
    go : (same : Bool) → eqb b c ≡ same → (cond {A = Buffer} (eqb b c) (record { count = count_of h b; cells = xs }) (record { count = count_of h c; cells = cells_of h c })).cells ≡ cond same xs (cells_of h c)
    go true e = ap (λ t. (cond {A = Buffer} t (record { count = count_of h b; cells = xs }) (record { count = count_of h c; cells = cells_of h c })).cells) e
    go false e = ap (λ t. (cond {A = Buffer} t (record { count = count_of h b; cells = xs }) (record { count = count_of h c; cells = cells_of h c })).cells) e

impossible : 1 ≤ 0 → ⊥
impossible p = omega (arith, p)

-- ---- the cells

module _ (buffer : ℕ) (others : ℕ → ℕ) (vacant : others buffer ≡ 0) where
  -- what is held while the cells run: the array's one reference besides
  abbrev pub holding : ℕ → ℕ
  holding = with_new buffer others

  here_one : 1 ≤ holding buffer
  here_one = let e = ap (λ t. cond t 1 0 + others buffer) (eq-eqb buffer buffer refl) in omega (arith, e)

  is_live : (k : Heap) → Owns k [] holding → 1 ≤ count_of k buffer
  is_live k owns = let o = owns.0 buffer in let e = ap (λ t. cond t 1 0 + others buffer) (eq-eqb buffer buffer refl) in omega (arith, o, e)

  -- whoever else holds a reference holds one to another buffer
  elsewhere : (b : ℕ) → 1 ≤ others b → eqb buffer b ≡ false
  elsewhere b le = go (eqb buffer b) refl
    where
      go : (same : Bool) → eqb buffer b ≡ same → same ≡ false
      go true e = let q = ap others (eqb-true buffer b e) in elim (impossible (omega (arith, vacant, q, le))) [ ]
      go false e = refl

  fewer : (b : ℕ) → others b ≤ holding b
  fewer b = omega arith

  recelled_owns : (k : Heap) (xs : List ℤ) → Owns k [] holding → Owns (with_cells k buffer xs) [] holding
  recelled_owns k xs owns =
      ((λ b. (let o = owns.0 b in let c = recelled_count k buffer b xs (is_live k owns) in omega (arith, o, c))), recelled_balance k buffer xs (is_live k owns) owns.1)

  recelled_same : (k : Heap) (xs : List ℤ) → Owns k [] holding → SameCells others k (with_cells k buffer xs)
  recelled_same k xs owns b le = other_cells k buffer b xs (is_live k owns) false (elsewhere b le)

  -- What a run of the cells from a place on has written: before the place the array is as it was, and then come their elements.
  abbrev pub Wrote : ℕ → Heap → Ended (List (Option ArrayValue)) → Type 0
  Wrote p k (Done ds l) = cells_of l buffer ≡ take p (cells_of k buffer) ++ flat_map elements_of ds
  Wrote p k (Failed f q) = Unit {0}

  wrote_before : (p : ℕ) (k k2 : Heap) (d : Option ArrayValue) → take (suc p) (cells_of k2 buffer) ≡ take p (cells_of k buffer) ++ elements_of d → (m : Ended (List (Option ArrayValue))) → Wrote (suc p) k2 m → Wrote p k (go_on m (λ ds. give (d ∷ ds)))
  wrote_before p k k2 d here (Done ds l) w =
      w ∙ ap (λ xs. xs ++ flat_map elements_of ds) here ∙ append_assoc (take p (cells_of k buffer)) (elements_of d) (flat_map elements_of ds)
  wrote_before p k k2 d here (Failed f q) w = tt

  module _ (h : Heap) (ns : List ℕ) (form : Form) (is_scalar : form.shape ≡ []) where
    -- from a place on the array is as it was
    abbrev pub Left : ℕ → Heap → Type 0
    Left p k = drop p (cells_of k buffer) ≡ drop p (cells_of h buffer)

    -- what stands at a place is what stood there
    abbrev pub OwnIs : ℕ → Heap → Type 0
    OwnIs p k = take 1 (drop p (cells_of k buffer)) ≡ take 1 (drop p (cells_of h buffer))

    -- In each heap where the array has its old element at the place, the source gives what the core's cell is. Each index has a source.
    abbrev pub LinkedOver : ℕ → Option Source → Ends (Option ArrayValue) → Type 0
    LinkedOver p None c = ⊥
    LinkedOver p (Some s) c =
        (cell : Ends ArrayValue) × (and_then cell (formed form s.site) ≡ c) × ((a : ArrayValue) → cell ≡ Ok a → IsFull a)
        × ((k : Heap) → Owns k [] holding → SameCells others h k → OwnIs p k → MatchesOne holding k (s.cell k) cell)

    -- a scalar
    abbrev IsMade : Option ArrayValue → Type 0
    IsMade None = ⊥
    IsMade (Some a) = length a.cells ≡ 1

    made_cell : (p : ℕ) (s : Option Source) (c : Ends (Option ArrayValue)) (d : Option ArrayValue) → LinkedOver p s c → c ≡ Ok d → IsMade d
    made_cell p None c d linked is = elim linked [ ]
    made_cell p (Some s) c d linked is =
        let t = then_ok linked.0 (formed form s.site) d (linked.1 ∙ is) in
        go t.0 (linked.2 t.0 t.1) (fits_form form t.0) refl t.2
      where
        go : (x : ArrayValue) → IsFull x → (fits : Bool) → fits_form form x ≡ fits → (if fits then Ok (Some x) else fault F6 s.site) ≡ Ok d → IsMade d
        go x full false e q = absurd (no_ok (record { kind = F6; site = s.site }) d q)
        go x full true e q =
            let shape = (bytes_eq-Decides x.shape form.shape).0 (and_both (same_base x.base form.base) (same_shape x.shape form.shape) e).1 in
            subst IsMade (ok_same (Some x) d q) (full ∙ ap size (shape ∙ is_scalar))

    -- one cell
    taken_one : (k : Heap) (m : Ended (Option ArrayValue)) (c : Ends (Option ArrayValue)) → MatchesPure holding holding k (go_on m (λ d l. go_on (Done [] l) (λ ds. give (d ∷ ds)))) (all_of (c ∷ [])) → MatchesPure holding holding k m c
    taken_one k (Done d l) (Ok c) r = (ap (λ ds. first_or d ds) r.0, r.1, r.2)
      where
        first_or : Option ArrayValue → List (Option ArrayValue) → Option ArrayValue
        first_or x [] = x
        first_or x (y ∷ ys) = y
    taken_one k (Failed f q) (Err g) r = r
    taken_one k (Done d l) (Err g) r = elim r [ ]
    taken_one k (Failed f q) (Ok c) r = elim r [ ]

    one_cell : (p : ℕ) (v : List ℤ) (source : List ℤ → Option Source) (core_cell : List ℤ → Ends (Option ArrayValue)) (k : Heap) → LinkedOver p (source v) (core_cell v) → Owns k [] holding → SameCells others h k → Left p k → MatchesPure holding holding k (cell_does form (source v) k) (core_cell v)
    one_cell p v source core_cell k linked owns same left =
        taken_one k (cell_does form (source v) k) (core_cell v)
        (cells_match holding holding (λ b. omega arith) k form (λ u. source v) (λ u. core_cell v) Inside (λ i c l. refl) (λ u. again (source v) (core_cell v) linked) (v ∷ []) 0 k owns (λ b le. refl))
      where
        again : (s : Option Source) (c : Ends (Option ArrayValue)) → LinkedOver p s c → Linked holding holding (λ b. omega arith) k form s c
        again None c l = elim l [ ]
        again (Some s) c l = (l.0, l.1, (λ k2 o to. l.3 k2 o (λ b le. to b (omega (arith, le, fewer b)) ∙ same b le) (ap (λ xs. take 1 (drop p xs)) (to buffer here_one) ∙ ap (take 1) left)))

    cell_before : (k k2 : Heap) (d c : Option ArrayValue) → d ≡ c → SameCells others k k2 → (m : Ended (List (Option ArrayValue))) (r : Ends (List (Option ArrayValue))) → MatchesPure holding others k2 m r → MatchesPure holding others k (go_on m (λ ds. give (d ∷ ds))) (with_first c r)
    cell_before k k2 d c is same (Done ds l) (Ok cs) p = ((λ i. is i ∷ p.0 i), p.1, (λ b le. p.2 b le ∙ same b le))
    cell_before k k2 d c is same (Failed f q) (Err g) p = p
    cell_before k k2 d c is same (Done ds l) (Err g) p = elim p [ ]
    cell_before k k2 d c is same (Failed f q) (Ok cs) p = elim p [ ]

    -- after a cell that was written the array is as it was from the next place on
    module _ (p : ℕ) (k : Heap) (owns : Owns k [] holding) where
      written_owns : (d : Option ArrayValue) → Owns (write_cell (Old buffer) p d k) [] holding
      written_owns None = owns
      written_owns (Some a) = recelled_owns k (written_at (p * length a.cells) a.cells (cells_of k buffer)) owns

      written_same : (d : Option ArrayValue) → SameCells others k (write_cell (Old buffer) p d k)
      written_same None b le = refl
      written_same (Some a) b le = recelled_same k (written_at (p * length a.cells) a.cells (cells_of k buffer)) owns b le

      written_cells : (a : ArrayValue) → cells_of (write_cell (Old buffer) p (Some a) k) buffer ≡ written_at (p * length a.cells) a.cells (cells_of k buffer)
      written_cells a = other_cells k buffer buffer (written_at (p * length a.cells) a.cells (cells_of k buffer)) (is_live k owns) true (eq-eqb buffer buffer refl)

      written_rest : (d : Option ArrayValue) → IsMade d → Left p k → Left (suc p) (write_cell (Old buffer) p d k)
      written_rest None made left = elim made [ ]
      written_rest (Some a) made left =
          ap (drop (suc p)) (written_cells a) ∙ written_left p a.cells (cells_of k buffer) made ∙ same_later p (cells_of k buffer) (cells_of h buffer) left

      -- and has the cell behind what stood before it
      written_there : (d : Option ArrayValue) → IsMade d → p < length (cells_of k buffer)
          → (take (suc p) (cells_of (write_cell (Old buffer) p d k) buffer) ≡ take p (cells_of k buffer) ++ elements_of d) × (length (cells_of (write_cell (Old buffer) p d k) buffer) ≡ length (cells_of k buffer))
      written_there None made lt = elim made [ ]
      written_there (Some a) made lt =
          let w = written_next p a.cells (cells_of k buffer) made lt in (ap (take (suc p)) (written_cells a) ∙ w.0, ap length (written_cells a) ∙ w.1)

    module _ (source : List ℤ → Option Source) (core_cell : List ℤ → Ends (Option ArrayValue)) (linked : (p : ℕ) (v : List ℤ) → p < size ns → v ≡ vector_at ns p → LinkedOver p (source v) (core_cell v)) where
      -- the cells are the core's, and the array becomes what they are
      abbrev pub CellsOver : ℕ → List (List ℤ) → Heap → Type 0
      CellsOver p vs k =
          MatchesPure holding others k (cells_do form source (write_cell (Old buffer)) p vs k) (all_of (map core_cell vs)) × Wrote p k (cells_do form source (write_cell (Old buffer)) p vs k)

      pub cells_over : (vs : List (List ℤ)) (p : ℕ) (k : Heap) → From ns p vs → Owns k [] holding → SameCells others h k → Left p k → length (cells_of k buffer) ≡ p + length vs → CellsOver p vs k
      cells_over [] p k from owns same left long = ((refl, owns, (λ b le. refl)), all_written p (cells_of k buffer) long)
      cells_over (v ∷ vs) p k from owns same left long =
          go (cell_does form (source v) k) (core_cell v) refl (one_cell p v source core_cell k (linked p v from.0 from.1) owns same left)
          (λ l o s q n. cells_over vs (suc p) l from.2 o s q n)
        where
          go : (m : Ended (Option ArrayValue)) (c : Ends (Option ArrayValue)) → core_cell v ≡ c → MatchesPure holding holding k m c
              → ((l : Heap) → Owns l [] holding → SameCells others h l → Left (suc p) l → length (cells_of l buffer) ≡ suc p + length vs → CellsOver (suc p) vs l)
              → MatchesPure holding others k (go_on m (λ d l. go_on (cells_do form source (write_cell (Old buffer)) (suc p) vs (write_cell (Old buffer) p d l)) (λ ds. give (d ∷ ds)))) (all_of (c ∷ map core_cell vs))
              × Wrote p k (go_on m (λ d l. go_on (cells_do form source (write_cell (Old buffer)) (suc p) vs (write_cell (Old buffer) p d l)) (λ ds. give (d ∷ ds))))
          go (Done d l) (Ok c) e r later =
              let stays : cells_of l buffer ≡ cells_of k buffer = r.2 buffer here_one in
              let here : Left p l = ap (drop p) stays ∙ left in
              let made : IsMade d = subst IsMade (sym r.0) (made_cell p (source v) (core_cell v) c (linked p v from.0 from.1) e) in
              let l2 = write_cell (Old buffer) p d l in
              let size_now = ap length stays in
              let there = written_there p l r.1 d made (omega (arith, size_now, long)) in
              let to : SameCells others k l2 = λ b le. written_same p l r.1 d b le ∙ r.2 b (omega (arith, le, fewer b)) in
              let rest = later l2 (written_owns p l r.1 d) (λ b le. to b le ∙ same b le) (written_rest p l r.1 d made here) (omega (arith, there.1, size_now, long)) in (
                cell_before k l2 d c r.0 to (cells_do form source (write_cell (Old buffer)) (suc p) vs l2) (all_of (map core_cell vs)) rest.0,
                wrote_before p k l2 d (there.0 ∙ ap (λ xs. take p xs ++ elements_of d) stays) (cells_do form source (write_cell (Old buffer)) (suc p) vs l2) rest.1,
              )
          go (Failed f q) (Err g) e r later = (r, tt)
          go (Done d l) (Err g) e r later = elim r [ ]
          go (Failed f q) (Ok c) e r later = elim r [ ]

  -- ---- the result

  pub over_matches : (h k : Heap) (result : List (Option ArrayValue) → ArrayValue) → ((found : List (Option ArrayValue)) → (result found).cells ≡ flat_map elements_of found) → (m : Ended (List (Option ArrayValue))) (r : Ends (List (Option ArrayValue))) → SameCells others h k → MatchesPure holding others k m r → Wrote 0 k m
      → Matches 1 others h (go_on (go_on m (λ found l. Done (Ref buffer (result found).base (result found).shape) l)) (λ v. give (v ∷ []))) (one (and_then r (λ found. Ok (result found))))
  over_matches h k result joins (Done found l) (Ok cells) same p wrote =
      let a = result found in (
        refl,
        ap (λ b. b ∷ []) ((λ i. record { base = a.base; shape = a.shape; cells = (wrote ∙ sym (joins found)) i }) ∙ ap result p.0),
        ((λ b. (let o = p.1.0 b in omega (arith, o))), p.1.1),
        (λ b le. p.2 b le ∙ same b le),
      )
  over_matches h k result joins (Failed f q) (Err g) same p wrote = p
  over_matches h k result joins (Done found l) (Err g) same p wrote = elim p [ ]
  over_matches h k result joins (Failed f q) (Ok cells) same p wrote = elim p [ ]
