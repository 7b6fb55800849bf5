-- Cells of a loop that leave the heap as it was, and what the loop spends.
use Rattle.std.proofs.Common.{◌≡◌, ℕ, zero, suc, ◌+◌, ◌≤◌, Bool, true, false, cond, List, [], ◌∷◌, ◌++◌, map, length, ℤ, pos, Option, Some, None, Ok, Err, refl, ap, ◌∙◌, sym, subst, slice_index_or, arith}
use Rattle.std.specs.Prelude.{if◌then◌else◌, ◌||◌, not, replicate}
use Rattle.std.proofs.lemmas.List.{append-nil}
use Rattle.sac_base.specs.declared.faults.FaultKind.TheVariants.{F6}
use Rattle.sac_base.specs.declared.form.Form.{Form}
use Rattle.sac_base.specs.declared.site.Site.{Site}
use Rattle.sac_base.specs.Arrays.{ArrayValue, size}
use Rattle.sac_base.specs.Operators.{all_of, with_first}
use Rattle.sac_base.specs.Outcomes.{Ends, and_then, fault}
use Rattle.sac_base.specs.WithLoops.{each, fits_form}
use Rattle.counted_code.specs.Loops.{Source, Job, stored, cell_does, cells_do, Target, Inside, Fresh, Old, claim, count_phase, claimed_does, job_does, write_cell}
use Rattle.counted_code.specs.Machine.{one_value}
use Rattle.counted_code.specs.Values.{Buffer, no_buffer, Heap, Value, Small, Ref, Ended, Done, Failed, Doing, give, go_on, then_go, fails, phases_as, is_small, read, count_of, cells_of, with_cells, release, take_buffer}
use Rattle.counted_laws.specs.Simulation.{some, live, Balanced, Owns, SameCells, MatchesOne}
use Rattle.counted_laws.proofs.Held.{live_none, released_owns, released_others, taken_balance}
use Rattle.counted_laws.proofs.Plains.{taken_owns, taken_same}
use Rattle.counted_laws.proofs.Cells.{formed, with_new, phase_owns, phase_same}
use Rattle.phase_laws.specs.Alone.{Spent, Unchanged, Leaves, IsNew}
use Rattle.phase_laws.specs.Spending.{Spending, total, cells_spend}
use Rattle.phase_laws.proofs.Spent.{release_spends}

sums : (x y z m n : ℕ) → y ≡ x + m → z ≡ y + n → z ≡ x + (m + n)
sums x y z m n s t = omega (arith, s, t)

-- ---- heaps with the same live buffers

-- the same counts at each place, so as many live buffers
live_same : (xs ys : List Buffer) → ((b : ℕ) → (slice_index_or xs b no_buffer).count ≡ (slice_index_or ys b no_buffer).count) → live xs ≡ live ys
live_same [] ys same = sym (live_none ys (λ b. sym (same b)))
live_same (x ∷ xs) [] same = live_none (x ∷ xs) same
live_same (x ∷ xs) (y ∷ ys) same =
    let rest = live_same xs ys (λ b. same (suc b)) in
    λ i. some (same zero i) + rest i

pub unchanged_self : (holding : ℕ → ℕ) (h : Heap) → Owns h [] holding → Unchanged holding 0 h h
unchanged_self holding h owns = record {
  owns = owns;
  buffers = λ b le. refl;
  taken = omega arith;
  given = omega arith;
  reused = refl;
  phases = refl;
}

pub unchanged_both : (holding : ℕ → ℕ) (m n : ℕ) (h k l : Heap) → Unchanged holding m h k → Unchanged holding n k l → Unchanged holding (m + n) h l
unchanged_both holding m n h k l p q = record {
  owns = q.owns;
  buffers = λ b le. q.buffers b le ∙ p.buffers b le;
  taken = sums h.taken k.taken l.taken m n p.taken q.taken;
  given = sums h.given k.given l.given m n p.given q.given;
  reused = q.reused ∙ p.reused;
  phases = q.phases ∙ p.phases;
}

pub unchanged_cells : (holding : ℕ → ℕ) (n : ℕ) (h k : Heap) → Unchanged holding n h k → SameCells holding h k
unchanged_cells holding n h k p b le = ap (λ (x : Buffer). x.cells) (p.buffers b le)

-- ---- one cell

-- a value whose reference is released once it is read
released_unchanged : (holding : ℕ → ℕ) (n : ℕ) (h k : Heap) (v : Value) → Owns h [] holding → Owns k (v ∷ []) holding → SameCells holding h k → k.taken ≡ h.taken + n → k.reused ≡ h.reused → k.phases ≡ h.phases → Unchanged holding n h (release v k)
released_unchanged holding n h k v owns owned same taken reused phases = record {
  owns = after;
  buffers = λ b le. (λ i. record { count = counts b i; cells = cells b le i });
  taken = numbers.0 ∙ taken;
  given = back (numbers.0 ∙ taken) after.1 owns.1 (live_same (release v k).buffers h.buffers counts);
  reused = numbers.1 ∙ reused;
  phases = numbers.2 ∙ phases;
}
  where
    after : Owns (release v k) [] holding
    after = released_owns k v [] holding owned

    numbers : ((release v k).taken ≡ k.taken) × ((release v k).reused ≡ k.reused) × ((release v k).phases ≡ k.phases)
    numbers = release_spends v k

    counts : (b : ℕ) → count_of (release v k) b ≡ count_of h b
    counts b = let a = after.0 b in let o = owns.0 b in omega (arith, a, o)

    cells : (b : ℕ) → 1 ≤ holding b → cells_of (release v k) b ≡ cells_of h b
    cells b le = released_others k v [] holding owned b le ∙ same b le

    back : (release v k).taken ≡ h.taken + n → Balanced (release v k) → Balanced h → live (release v k).buffers ≡ live h.buffers → (release v k).given ≡ h.given + n
    back p q r e = omega (arith, p, q, r, e)

stored_leaves : (holding : ℕ → ℕ) (n : ℕ) (h k : Heap) (form : Form) (site : Site) (v : Value) (fits : Bool) → Unchanged holding n h (release v k) → k.phases ≡ h.phases → Leaves holding n h (if fits then Done (Some (read k v)) (release v k) else fails F6 site k) (if fits then Ok (Some (read k v)) else fault F6 site)
stored_leaves holding n h k form site v true unchanged phases = (refl, unchanged)
stored_leaves holding n h k form site v false unchanged phases = (refl, phases)

pub cell_leaves : (holding : ℕ → ℕ) (h : Heap) (form : Form) (site : Site) (s : Spending) (m : Ended Value) (r : Ends ArrayValue) → Owns h [] holding → MatchesOne holding h m r → Spent s h m → Leaves holding s.taken h (go_on (phases_as h.phases m) (stored form site)) (and_then r (formed form site))
cell_leaves holding h form site s (Done v k) (Ok a) owns p q =
    let l : Heap = record k { phases = h.phases } in
    subst (λ x. Leaves holding s.taken h (stored form site v l) (formed form site x)) p.0
    (stored_leaves holding s.taken h l form site v (fits_form form (read l v)) (released_unchanged holding s.taken h l v owns p.1 p.2 q.0 q.1 refl) refl)
cell_leaves holding h form site s (Failed f ps) (Err g) owns p q = (p, refl)
cell_leaves holding h form site s (Done v k) (Err g) owns p q = elim p [ ]
cell_leaves holding h form site s (Failed f ps) (Ok a) owns p q = elim p [ ]

-- ---- cells one after another

-- one cell, and then the rest
cell_before : (holding : ℕ → ℕ) (m n : ℕ) (h k : Heap) (d c : Option ArrayValue) → d ≡ c → Unchanged holding m h k → (e : Ended (List (Option ArrayValue))) (r : Ends (List (Option ArrayValue))) → Leaves holding n k e r → Leaves holding (m + n) h (go_on e (λ ds. give (d ∷ ds))) (with_first c r)
cell_before holding m n h k d c is u (Done ds l) (Ok cs) p = ((λ i. is i ∷ p.0 i), unchanged_both holding m n h k l u p.1)
cell_before holding m n h k d c is u (Failed f q) (Err g) p = (p.0, p.1 ∙ u.phases)
cell_before holding m n h k d c is u (Done ds l) (Err g) p = elim p [ ]
cell_before holding m n h k d c is u (Failed f q) (Ok cs) p = elim p [ ]

more_cells : (holding : ℕ → ℕ) (m n : ℕ) (h : Heap) (e : Ended (Option ArrayValue)) (c : Ends (Option ArrayValue)) (rest : Option ArrayValue → Doing (List (Option ArrayValue))) (cs : List (Ends (Option ArrayValue))) → Leaves holding m h e c → ((d : Option ArrayValue) (k : Heap) → Unchanged holding m h k → Leaves holding n k (rest d k) (all_of cs)) → Leaves holding (m + n) h (go_on e (λ d. then_go (rest d) (λ ds. give (d ∷ ds)))) (all_of (c ∷ cs))
more_cells holding m n h (Done d k) (Ok c) rest cs p next = cell_before holding m n h k d c p.0 p.1 (rest d k) (all_of cs) (next d k p.1)
more_cells holding m n h (Failed f q) (Err g) rest cs p next = p
more_cells holding m n h (Done d k) (Err g) rest cs p next = elim p [ ]
more_cells holding m n h (Failed f q) (Ok c) rest cs p next = elim p [ ]

quiet : (t : Target) → IsNew t → (i : ℕ) (c : Option ArrayValue) (k : Heap) → k ≡ write_cell t i c k
quiet Inside new i c k = refl
quiet (Fresh b) new i c k = refl
quiet (Old b) new i c k = elim new [ ]

module _ (holding : ℕ → ℕ) (h : Heap) (form : Form) (source : List ℤ → Option Source) (core_cell : List ℤ → Ends (Option ArrayValue)) (takes : List ℤ → ℕ) where
  -- from each heap on that keeps the cells of what is held, a cell leaves the heap as it was
  abbrev pub CellsLeave : Type 0
  CellsLeave =
      (v : List ℤ) (k : Heap) → Owns k [] holding → SameCells holding h k → Leaves holding (takes v) k (cell_does form (source v) k) (core_cell v)

  pub cells_leave : CellsLeave → (t : Target) → IsNew t → (i : ℕ) (vs : List (List ℤ)) (k : Heap) → Owns k [] holding → SameCells holding h k → Leaves holding (total takes vs) k (cells_do form source (write_cell t) i vs k) (each core_cell vs)
  cells_leave one t new i [] k owns same = (refl, unchanged_self holding k owns)
  cells_leave one t new i (v ∷ vs) k owns same =
      more_cells holding (takes v) (total takes vs) k (cell_does form (source v) k) (core_cell v) (λ d l. cells_do form source (write_cell t) (suc i) vs (write_cell t i d l)) (map core_cell vs) (one v k owns same)
      (λ d l u. subst (λ g. Leaves holding (total takes vs) l (cells_do form source (write_cell t) (suc i) vs g) (all_of (map core_cell vs))) (quiet t new i d l)
      (cells_leave one t new (suc i) vs l u.owns (λ b le. unchanged_cells holding (takes v) k l u b le ∙ same b le)))

-- ---- loops

-- what was spent before the first cell
abbrev pub Begun : ℕ → List ℕ → Heap → Heap → Type 0
Begun n phases h k = (k.taken ≡ h.taken + n) × (k.reused ≡ h.reused) × (k.phases ≡ h.phases ++ phases)

pub begins : (phase : Bool) (n : ℕ) (h : Heap) → Begun 0 (cond phase (n ∷ []) []) h (count_phase phase n h)
begins true n h = (omega arith, refl, refl)
begins false n h = (omega arith, refl, sym (append-nil h.phases))

pub inside_spends : (holding : ℕ → ℕ) (m n : ℕ) (phases : List ℕ) (h k : Heap) (result : List (Option ArrayValue) → ArrayValue) (e : Ended (List (Option ArrayValue))) (r : Ends (List (Option ArrayValue))) → Begun m phases h k → Leaves holding n k e r → Spent (record { taken = m + n; phases = phases }) h (go_on (go_on e (λ found l. Done (Small (result found)) l)) (λ v. give (v ∷ [])))
inside_spends holding m n phases h k result (Done found l) (Ok cells) b p = (sums h.taken k.taken l.taken m n b.0 p.1.taken, p.1.reused ∙ b.1, p.1.phases ∙ b.2)
inside_spends holding m n phases h k result (Failed f q) (Err g) b p = p.1 ∙ b.2
inside_spends holding m n phases h k result (Done found l) (Err g) b p = elim p [ ]
inside_spends holding m n phases h k result (Failed f q) (Ok cells) b p = elim p [ ]

pub fresh_spends : (holding : ℕ → ℕ) (m n target : ℕ) (phases : List ℕ) (h k : Heap) (result : List (Option ArrayValue) → ArrayValue) (e : Ended (List (Option ArrayValue))) (r : Ends (List (Option ArrayValue))) → Begun m phases h k → Leaves holding n k e r → Spent (record { taken = m + n; phases = phases }) h (go_on (go_on e (λ found l. Done (Ref target (result found).base (result found).shape) (with_cells l target (result found).cells))) (λ v. give (v ∷ [])))
fresh_spends holding m n target phases h k result (Done found l) (Ok cells) b p = (sums h.taken k.taken l.taken m n b.0 p.1.taken, p.1.reused ∙ b.1, p.1.phases ∙ b.2)
fresh_spends holding m n target phases h k result (Failed f q) (Err g) b p = p.1 ∙ b.2
fresh_spends holding m n target phases h k result (Done found l) (Err g) b p = elim p [ ]
fresh_spends holding m n target phases h k result (Failed f q) (Ok cells) b p = elim p [ ]

-- whatever is held besides, the cells leave the heap as it was
abbrev pub AlwaysLeave : (ℕ → ℕ) → Heap → Form → (List ℤ → Option Source) → (List ℤ → Ends (Option ArrayValue)) → (List ℤ → ℕ) → Type 0
AlwaysLeave others h form source core_cell takes =
    (holding : ℕ → ℕ) → ((b : ℕ) → others b ≤ holding b) → (v : List ℤ) (k : Heap) → Owns k [] holding → SameCells others h k → Leaves holding (takes v) k (cell_does form (source v) k) (core_cell v)

pub job_spends : (j : Job) (core_cell : List ℤ → Ends (Option ArrayValue)) (takes : List ℤ → ℕ) (h : Heap) (others : ℕ → ℕ) → Owns h [] others → AlwaysLeave others h j.form j.source core_cell takes → Spent (cells_spend j.folds j.shape j.indices takes) h (one_value (job_does None j) h)
job_spends j core_cell takes h others owns leave = go (is_small j.shape) (j.folds || not (is_small j.shape))
  where
    go : (small phase : Bool) → Spent (record { taken = cond small 0 1 + total takes j.indices; phases = cond phase (length j.indices ∷ []) [] }) h (go_on (claimed_does j (claim small None (size j.shape) (count_phase phase (length j.indices) h))) (λ v. give (v ∷ [])))
    go true phase =
        let k : Heap = count_phase phase (length j.indices) h in
        let same : SameCells others h k = phase_same phase (length j.indices) h others in
        inside_spends others 0 (total takes j.indices) (cond phase (length j.indices ∷ []) []) h k j.result (cells_do j.form j.source (write_cell Inside) 0 j.indices k) (each core_cell j.indices) (begins phase (length j.indices) h)
        (cells_leave others k j.form j.source core_cell takes (λ v l o s. leave others (λ b. omega arith) v l o (λ b le. s b le ∙ same b le)) Inside tt 0 j.indices k (phase_owns phase (length j.indices) h others owns) (λ b le. refl))
    go false phase =
        let l : Heap = count_phase phase (length j.indices) h in
        let target = length l.buffers in
        let zeros = replicate (size j.shape) (pos 0) in
        let k : Heap = take_buffer zeros l in
        let owned = phase_owns phase (length j.indices) h others owns in
        let same : SameCells others h k = (λ b le. taken_same l zeros others owned b le ∙ phase_same phase (length j.indices) h others b le) in
        let hold : ℕ → ℕ = with_new target others in
        let b = begins phase (length j.indices) h in
        fresh_spends hold 1 (total takes j.indices) target (cond phase (length j.indices ∷ []) []) h k j.result (cells_do j.form j.source (write_cell (Fresh target)) 0 j.indices k) (each core_cell j.indices) (one_more b.0, b.1, b.2)
        (cells_leave hold k j.form j.source core_cell takes (λ v g o s. leave hold (λ a. omega arith) v g o (λ a le. s a (more a le) ∙ same a le)) (Fresh target) tt 0 j.indices k ((λ a. (let o = taken_owns l zeros others owned a in omega (arith, o))), taken_balance l zeros owned.1) (λ a le. refl))
      where
        more : (a : ℕ) → 1 ≤ others a → 1 ≤ with_new (length (count_phase phase (length j.indices) h).buffers) others a
        more a le = omega (arith, le)

        one_more : (count_phase phase (length j.indices) h).taken ≡ h.taken + 0 → (count_phase phase (length j.indices) h).taken + 1 ≡ h.taken + 1
        one_more p = omega (arith, p)
