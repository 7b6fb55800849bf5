-- The cells of an unmarked loop over cells, and what is made of them, are those of the core.
use Rattle.std.proofs.Common.{◌≡◌, ℕ, suc, ◌+◌, ◌≤◌, Bool, true, false, cond, eqb, List, [], ◌∷◌, map, length, ℤ, pos, Option, Some, None, Ok, Err, refl, ap, ◌∙◌, sym, subst, arith}
use Rattle.std.specs.Prelude.{if◌then◌else◌, ◌||◌, not, replicate}
use Rattle.std.proofs.lemmas.Bool.{eqb-true, eq-eqb}
use Rattle.sac_base.specs.declared.faults.FaultKind.TheVariants.{F6}
use Rattle.sac_base.specs.declared.form.Form.{Form}
use Rattle.sac_base.specs.declared.site.Site.{Site}
use Rattle.sac_base.specs.Arrays.{ArrayValue, size}
use Rattle.sac_base.specs.Operators.{all_of, with_first}
use Rattle.sac_base.specs.Outcomes.{Ends, and_then, fault}
use Rattle.sac_base.specs.WithLoops.{each, fits_form}
use Rattle.core_ir.specs.Meaning.{one}
use Rattle.counted_code.specs.Values.{Buffer, Heap, Value, Small, Ref, Ended, Done, Failed, Doing, give, go_on, then_go, fails, phases_as, is_small, read, count_of, cells_of, with_cells, release, take_buffer}
use Rattle.counted_code.specs.Loops.{Source, Job, stored, cell_does, cells_do, Target, Inside, Fresh, claim, count_phase, claimed_does, job_does, write_cell}
use Rattle.counted_code.specs.Machine.{one_value}
use Rattle.counted_laws.specs.Simulation.{Owns, SameCells, Matches, MatchesOne, MatchesPure}
use Rattle.counted_laws.proofs.Held.{buffer_set, same_cells_fewer, released_owns, released_others, recelled_balance, taken_balance}
use Rattle.counted_laws.proofs.Plains.{vacant_end, taken_owns, taken_same}

-- a cell of the form, or a fault
abbrev pub formed : Form → Site → ArrayValue → Ends (Option ArrayValue)
formed form site a = if fits_form form a then Ok (Some a) else fault F6 site

apart_matches : (others : ℕ → ℕ) (h : Heap) (n : List ℕ) (m : Ended Value) (r : Ends ArrayValue) → MatchesOne others h m r → MatchesOne others h (phases_as n m) r
apart_matches others h n (Done v k) (Ok a) p = (p.0, p.1, p.2)
apart_matches others h n (Failed f q) (Err g) p = p
apart_matches others h n (Done v k) (Err g) p = elim p [ ]
apart_matches others h n (Failed f q) (Ok a) p = elim p [ ]

module _ (holding others : ℕ → ℕ) (fewer : (b : ℕ) → others b ≤ holding b) where
  stored_as : (h k : Heap) (form : Form) (site : Site) (v : Value) (fits : Bool) → Owns k (v ∷ []) holding → SameCells others h k → MatchesPure holding others h (if fits then Done (Some (read k v)) (release v k) else fails F6 site k) (if fits then Ok (Some (read k v)) else fault F6 site)
  stored_as h k form site v true owns same =
      (refl, released_owns k v [] holding owns, (λ b le. same_cells_fewer others holding k (release v k) fewer (released_others k v [] holding owns) b le ∙ same b le))
  stored_as h k form site v false owns same = refl

  stored_matches : (h : Heap) (form : Form) (site : Site) (m : Ended Value) (r : Ends ArrayValue) → MatchesOne holding h m r → MatchesPure holding others h (go_on m (stored form site)) (and_then r (formed form site))
  stored_matches h form site (Done v k) (Ok a) p =
      subst (λ x. MatchesPure holding others h (stored form site v k) (formed form site x)) p.0
      (stored_as h k form site v (fits_form form (read k v)) p.1 (same_cells_fewer others holding h k fewer p.2))
  stored_matches h form site (Failed f q) (Err g) p = p
  stored_matches h form site (Done v k) (Err g) p = elim p [ ]
  stored_matches h form site (Failed f q) (Ok a) p = elim p [ ]

  -- from a heap on that keeps the cells of what others hold, the source gives what the core's cell is
  abbrev pub Linked : Heap → Form → Option Source → Ends (Option ArrayValue) → Type 0
  Linked h form None c = Ok None ≡ c
  Linked h form (Some s) c =
      (cell : Ends ArrayValue) × (and_then cell (formed form s.site) ≡ c) × ((k : Heap) → Owns k [] holding → SameCells others h k → MatchesOne holding k (s.cell k) cell)

  cell_matches : (h k : Heap) (form : Form) (s : Option Source) (c : Ends (Option ArrayValue)) → Linked h form s c → Owns k [] holding → SameCells others h k → MatchesPure holding others k (cell_does form s k) c
  cell_matches h k form None c linked owns same = subst (λ d. MatchesPure holding others k (Done None k) d) linked (refl, owns, (λ b le. refl))
  cell_matches h k form (Some s) c linked owns same =
      subst (λ d. MatchesPure holding others k (cell_does form (Some s) k) d) linked.1
      (stored_matches k form s.site (phases_as k.phases (s.cell k)) linked.0 (apart_matches holding k k.phases (s.cell k) linked.0 (linked.2 k owns same)))

  -- one cell, and then the rest
  cell_before : (k k2 : Heap) (d c : Option ArrayValue) → d ≡ c → SameCells others k k2 → (m : Ended (List (Option ArrayValue))) (r : Ends (List (Option ArrayValue))) → MatchesPure holding others k2 m r → MatchesPure holding others k (go_on m (λ ds. give (d ∷ ds))) (with_first c r)
  cell_before k k2 d c is same (Done ds l) (Ok cs) p = ((λ i. is i ∷ p.0 i), p.1, (λ b le. p.2 b le ∙ same b le))
  cell_before k k2 d c is same (Failed f q) (Err g) p = p
  cell_before k k2 d c is same (Done ds l) (Err g) p = elim p [ ]
  cell_before k k2 d c is same (Failed f q) (Ok cs) p = elim p [ ]

  more_cells : (k : Heap) (m : Ended (Option ArrayValue)) (c : Ends (Option ArrayValue)) (rest : Option ArrayValue → Doing (List (Option ArrayValue))) (cs : List (Ends (Option ArrayValue))) → MatchesPure holding others k m c → ((d : Option ArrayValue) (k2 : Heap) → Owns k2 [] holding → SameCells others k k2 → MatchesPure holding others k2 (rest d k2) (all_of cs)) → MatchesPure holding others k (go_on m (λ d. then_go (rest d) (λ ds. give (d ∷ ds)))) (all_of (c ∷ cs))
  more_cells k (Done d k2) (Ok c) rest cs p next = cell_before k k2 d c p.0 p.2 (rest d k2) (all_of cs) (next d k2 p.1 p.2)
  more_cells k (Failed f q) (Err g) rest cs p next = p
  more_cells k (Done d k2) (Err g) rest cs p next = elim p [ ]
  more_cells k (Failed f q) (Ok c) rest cs p next = elim p [ ]

  pub cells_match : (h : Heap) (form : Form) (source : List ℤ → Option Source) (core_cell : List ℤ → Ends (Option ArrayValue)) (t : Target) → ((i : ℕ) (c : Option ArrayValue) (k : Heap) → write_cell t i c k ≡ k) → ((v : List ℤ) → Linked h form (source v) (core_cell v)) → (vs : List (List ℤ)) (i : ℕ) (k : Heap) → Owns k [] holding → SameCells others h k → MatchesPure holding others k (cells_do form source (write_cell t) i vs k) (each core_cell vs)
  cells_match h form source core_cell t quiet linked [] i k owns same = (refl, owns, (λ b le. refl))
  cells_match h form source core_cell t quiet linked (v ∷ vs) i k owns same =
      more_cells k (cell_does form (source v) k) (core_cell v) (λ d l. cells_do form source (write_cell t) (suc i) vs (write_cell t i d l)) (map core_cell vs) (cell_matches h k form (source v) (core_cell v) (linked v) owns same)
      (λ d k2 o s. subst (λ l. MatchesPure holding others k2 (cells_do form source (write_cell t) (suc i) vs l) (all_of (map core_cell vs))) (sym (quiet i d k2))
      (cells_match h form source core_cell t quiet linked vs (suc i) k2 o (λ b le. s b le ∙ same b le)))

-- ---- the result

pub phase_owns : (phase : Bool) (n : ℕ) (h : Heap) (others : ℕ → ℕ) → Owns h [] others → Owns (count_phase phase n h) [] others
phase_owns false n h others owns = owns
phase_owns true n h others owns = owns

pub phase_same : (phase : Bool) (n : ℕ) (h : Heap) (others : ℕ → ℕ) → SameCells others h (count_phase phase n h)
phase_same false n h others b le = refl
phase_same true n h others b le = refl

inside_matches : (others : ℕ → ℕ) (h k : Heap) (result : List (Option ArrayValue) → ArrayValue) (m : Ended (List (Option ArrayValue))) (r : Ends (List (Option ArrayValue))) → SameCells others h k → MatchesPure others others k m r → Matches 1 others h (go_on (go_on m (λ found l. Done (Small (result found)) l)) (λ v. give (v ∷ []))) (one (and_then r (λ found. Ok (result found))))
inside_matches others h k result (Done found l) (Ok cells) same p =
    (refl, (λ i. result (p.0 i) ∷ []), ((λ b. (let o = p.1.0 b in omega (arith, o))), p.1.1), (λ b le. p.2 b le ∙ same b le))
inside_matches others h k result (Failed f q) (Err g) same p = p
inside_matches others h k result (Done found l) (Err g) same p = elim p [ ]
inside_matches others h k result (Failed f q) (Ok cells) same p = elim p [ ]

pub recelled_count : (h : Heap) (b c : ℕ) (xs : List ℤ) → 1 ≤ count_of h b → count_of (with_cells h b xs) c ≡ count_of h c
recelled_count h b c xs live = ap (λ (x : Buffer). x.count) (buffer_set h b c (record { count = count_of h b; cells = xs }) live) ∙ go (eqb b c) refl
  where
    go : (same : Bool) → eqb b c ≡ same → (cond {A = Buffer} same (record { count = count_of h b; cells = xs }) (record { count = count_of h c; cells = cells_of h c })).count ≡ count_of h c
    go true e = ap (count_of h) (eqb-true b c e)
    go false e = refl

recelled_cells : (h : Heap) (b c : ℕ) (xs : List ℤ) (same : Bool) → 1 ≤ count_of h b → eqb b c ≡ same → cells_of (with_cells h b xs) c ≡ cond same xs (cells_of h c)
recelled_cells h b c xs true live e =
    ap (λ (x : Buffer). x.cells) (buffer_set h b c (record { count = count_of h b; cells = xs }) live)
    ∙ ap (λ t. (cond {A = Buffer} t (record { count = count_of h b; cells = xs }) (record { count = count_of h c; cells = cells_of h c })).cells) e
recelled_cells h b c xs false live e =
    ap (λ (x : Buffer). x.cells) (buffer_set h b c (record { count = count_of h b; cells = xs }) live)
    ∙ ap (λ t. (cond {A = Buffer} t (record { count = count_of h b; cells = xs }) (record { count = count_of h c; cells = cells_of h c })).cells) e

-- what is held while the cells run: the new buffer's one reference besides
abbrev pub with_new : ℕ → (ℕ → ℕ) → ℕ → ℕ
with_new target others b = cond (eqb target b) 1 0 + others b

fresh_matches : (others : ℕ → ℕ) (target : ℕ) → others target ≡ 0 → (h k : Heap) (result : List (Option ArrayValue) → ArrayValue) (m : Ended (List (Option ArrayValue))) (r : Ends (List (Option ArrayValue))) → SameCells others h k → MatchesPure (with_new target others) others k m r → Matches 1 others h (go_on (go_on m (λ found l. Done (Ref target (result found).base (result found).shape) (with_cells l target (result found).cells))) (λ v. give (v ∷ []))) (one (and_then r (λ found. Ok (result found))))
fresh_matches others target vacant h k result (Done found l) (Ok cells) same p = (
  refl,
  ap (λ a. a ∷ []) (shown ∙ ap result p.0),
  ((λ b. (let o = p.1.0 b in let c = recelled_count l target b (result found).cells live in omega (arith, o, c))), recelled_balance l target (result found).cells live p.1.1),
  (λ b le. kept b le (eqb target b) refl ∙ p.2 b le ∙ same b le),
)
  where
    live : 1 ≤ count_of l target
    live = let o = p.1.0 target in let e = ap (λ t. cond t 1 0 + others target) (eq-eqb target target refl) in omega (arith, o, e)

    shown : read (with_cells l target (result found).cells) (Ref target (result found).base (result found).shape) ≡ result found
    shown = λ i. record { base = (result found).base; shape = (result found).shape; cells = recelled_cells l target target (result found).cells true live (eq-eqb target target refl) i }

    impossible : 1 ≤ 0 → ⊥
    impossible q = omega (arith, q)

    kept : (b : ℕ) → 1 ≤ others b → (same : Bool) → eqb target b ≡ same → cells_of (with_cells l target (result found).cells) b ≡ cells_of l b
    kept b le true e = let q = ap others (eqb-true target b e) in elim (impossible (omega (arith, vacant, q, le))) [ ]
    kept b le false e = recelled_cells l target b (result found).cells false live e
fresh_matches others target vacant h k result (Failed f q) (Err g) same p = p
fresh_matches others target vacant h k result (Done found l) (Err g) same p = elim p [ ]
fresh_matches others target vacant h k result (Failed f q) (Ok cells) same p = elim p [ ]

-- ---- loops

-- whatever is held besides, the source gives what the core's cell is
abbrev pub AlwaysLinked : (ℕ → ℕ) → Heap → Form → Option Source → Ends (Option ArrayValue) → Type 0
AlwaysLinked others h form s c = (holding : ℕ → ℕ) (fewer : (b : ℕ) → others b ≤ holding b) → Linked holding others fewer h form s c

pub job_matches : (j : Job) (core_cell : List ℤ → Ends (Option ArrayValue)) (h : Heap) (others : ℕ → ℕ) → Owns h [] others → ((v : List ℤ) → AlwaysLinked others h j.form (j.source v) (core_cell v)) → Matches 1 others h (one_value (job_does None j) h) (one (and_then (each core_cell j.indices) (λ found. Ok (j.result found))))
job_matches j core_cell h others owns linked = go (is_small j.shape) (j.folds || not (is_small j.shape))
  where
    go : (small phase : Bool) → Matches 1 others h (go_on (claimed_does j (claim small None (size j.shape) (count_phase phase (length j.indices) h))) (λ v. give (v ∷ []))) (one (and_then (each core_cell j.indices) (λ found. Ok (j.result found))))
    go true phase =
        let k : Heap = count_phase phase (length j.indices) h in
        let same = phase_same phase (length j.indices) h others in
        inside_matches others h k j.result (cells_do j.form j.source (write_cell Inside) 0 j.indices k) (each core_cell j.indices) same
        (cells_match others others (λ b. omega arith) h j.form j.source core_cell Inside (λ i c l. refl) (λ v. linked v others (λ b. omega arith)) j.indices 0 k (phase_owns phase (length j.indices) h others owns) same)
    go false phase =
        let l : Heap = count_phase phase (length j.indices) h in
        let target = length l.buffers in
        let zeros = replicate (size j.shape) (pos 0) in
        let k : Heap = take_buffer zeros l in
        let owned = phase_owns phase (length j.indices) h others owns in
        let same : SameCells others h k = (λ b le. taken_same l zeros others owned b le ∙ phase_same phase (length j.indices) h others b le) in
        let hold : ℕ → ℕ = with_new target others in
        fresh_matches others target (vacant_end l others owned) h k j.result (cells_do j.form j.source (write_cell (Fresh target)) 0 j.indices k) (each core_cell j.indices) same
        (cells_match hold others (λ b. omega arith) h j.form j.source core_cell (Fresh target) (λ i c m. refl) (λ v. linked v hold (λ b. omega arith)) j.indices 0 k ((λ b. (let o = taken_owns l zeros others owned b in omega (arith, o))), taken_balance l zeros owned.1) same)
