-- A loop whose cells are run in chunks is what the core's is, and spends what it is to.
use Rattle.std.proofs.Common.{◌≡◌, ℕ, ◌+◌, ◌≤◌, Bool, true, false, cond, eqb, List, [], ◌∷◌, length, ℤ, pos, Option, Some, None, Ok, Err, refl, ap, ◌∙◌, subst, arith}
use Rattle.std.specs.Prelude.{◌||◌, not, replicate}
use Rattle.std.proofs.lemmas.Bool.{eqb-true, eq-eqb}
use Rattle.sac_base.specs.declared.form.Form.{Form}
use Rattle.sac_base.specs.Arrays.{ArrayValue, size}
use Rattle.sac_base.specs.Outcomes.{Ends, and_then}
use Rattle.sac_base.specs.WithLoops.{each}
use Rattle.core_ir.specs.Meaning.{Answer, one}
use Rattle.counted_code.specs.Loops.{Source, Job, Target, Inside, Fresh, Old, cells_do, claim, count_phase, write_cell}
use Rattle.counted_code.specs.Machine.{one_value}
use Rattle.counted_code.specs.Values.{Buffer, Heap, Value, Small, Ref, Ended, Done, Failed, give, go_on, is_small, read, count_of, cells_of, buffer_at, with_cells, take_buffer}
use Rattle.counted_laws.specs.Simulation.{Owns, SameCells, Matches}
use Rattle.counted_laws.proofs.Cells.{with_new, phase_owns, phase_same}
use Rattle.counted_laws.proofs.Held.{buffer_set, recelled_balance, taken_balance}
use Rattle.counted_laws.proofs.Plains.{vacant_end, taken_owns, taken_same}
use Rattle.phase_laws.specs.Alone.{Spent, Leaves, StandAlone, IsNew}
use Rattle.phase_laws.specs.Chunks.{pieces, chunks_do}
use Rattle.phase_laws.specs.Numbers.{SourceIsBlind}
use Rattle.phase_laws.specs.Phased.{Cut, phase_cells, claimed_phase, phase_does}
use Rattle.phase_laws.specs.Spending.{Spending, total, cells_spend}
use Rattle.phase_laws.proofs.Cells.{AlwaysLeave, Begun, begins, inside_spends, fresh_spends, cells_leave, unchanged_cells}
use Rattle.phase_laws.proofs.Chunks.{chunks_leave, pieces_together}

-- a run ends as the core does, and spends so much
abbrev pub Goes : ℕ → (ℕ → ℕ) → Heap → Ended (List Value) → Answer → Spending → Type 0
Goes n others h m a s = Matches n others h m a × Spent s h m

module _ (holding : ℕ → ℕ) (h : Heap) (form : Form) (source : List ℤ → Option Source) (cell : List ℤ → Ends (Option ArrayValue)) (takes : List ℤ → ℕ) (alone : StandAlone holding h form source cell takes) (blind : (v : List ℤ) → SourceIsBlind (source v)) (owns : Owns h [] holding) where
  in_pieces : (cut : Cut) (t : Target) → IsNew t → (vs : List (List ℤ)) → Leaves holding (total takes vs) h (chunks_do form source (write_cell t) 0 (pieces (cut (length vs)) vs) h) (each cell vs)
  in_pieces cut t new vs =
      subst (λ us. Leaves holding (total takes us) h (chunks_do form source (write_cell t) 0 (pieces (cut (length vs)) vs) h) (each cell us)) (pieces_together (cut (length vs)) vs)
      (chunks_leave holding h form source cell takes alone blind t new owns 0 (pieces (cut (length vs)) vs))

  in_order : (t : Target) → IsNew t → (vs : List (List ℤ)) → Leaves holding (total takes vs) h (cells_do form source (write_cell t) 0 vs h) (each cell vs)
  in_order t new vs = cells_leave holding h form source cell takes alone t new 0 vs h owns (λ b le. refl)

  pub phase_leaves : (cut : Option Cut) (phase : Bool) (t : Target) → IsNew t → (vs : List (List ℤ)) → Leaves holding (total takes vs) h (phase_cells cut phase t form source vs h) (each cell vs)
  phase_leaves None phase t new vs = in_order t new vs
  phase_leaves (Some cut) false t new vs = in_order t new vs
  phase_leaves (Some cut) true (Old b) new vs = elim new [ ]
  phase_leaves (Some cut) true (Fresh b) new vs = in_pieces cut (Fresh b) new vs
  phase_leaves (Some cut) true Inside new vs = in_pieces cut Inside new vs

-- ---- the result

inside_matches : (others : ℕ → ℕ) (n : ℕ) (h k : Heap) (result : List (Option ArrayValue) → ArrayValue) (m : Ended (List (Option ArrayValue))) (r : Ends (List (Option ArrayValue))) → SameCells others h k → Leaves others n k m r → Matches 1 others h (go_on (go_on m (λ found l. Done (Small (result found)) l)) (λ v. give (v ∷ []))) (one (and_then r (λ found. Ok (result found))))
inside_matches others n h k result (Done found l) (Ok cells) same p =
    (refl, (λ i. result (p.0 i) ∷ []), ((λ b. (let o = p.1.owns.0 b in omega (arith, o))), p.1.owns.1), (λ b le. unchanged_cells others n k l p.1 b le ∙ same b le))
inside_matches others n h k result (Failed f q) (Err g) same p = p.0
inside_matches others n h k result (Done found l) (Err g) same p = elim p [ ]
inside_matches others n h k result (Failed f q) (Ok cells) same p = elim p [ ]

recelled : (h : Heap) (b c : ℕ) (xs : List ℤ) (same : Bool) → 1 ≤ count_of h b → eqb b c ≡ same → (count_of (with_cells h b xs) c ≡ count_of h c) × (cells_of (with_cells h b xs) c ≡ cond same xs (cells_of h c))
recelled h b c xs same live e = (ap (λ (x : Buffer). x.count) whole ∙ counts same e, ap (λ (x : Buffer). x.cells) whole ∙ elements same)
  where
    whole : buffer_at (with_cells h b xs) c ≡ cond {A = Buffer} same (record { count = count_of h b; cells = xs }) (buffer_at h c)
    whole = buffer_set h b c (record { count = count_of h b; cells = xs }) live ∙ ap (λ t. cond {A = Buffer} t (record { count = count_of h b; cells = xs }) (buffer_at h c)) e

    counts : (t : Bool) → eqb b c ≡ t → (cond {A = Buffer} t (record { count = count_of h b; cells = xs }) (buffer_at h c)).count ≡ count_of h c
    counts true is = ap (count_of h) (eqb-true b c is)
    counts false is = refl

    elements : (t : Bool) → (cond {A = Buffer} t (record { count = count_of h b; cells = xs }) (buffer_at h c)).cells ≡ cond t xs (cells_of h c)
    elements true = refl
    elements false = refl

fresh_matches : (others : ℕ → ℕ) (target n : ℕ) → others target ≡ 0 → (h k : Heap) (result : List (Option ArrayValue) → ArrayValue) (m : Ended (List (Option ArrayValue))) (r : Ends (List (Option ArrayValue))) → SameCells others h k → Leaves (with_new target others) n k m r → Matches 1 others h (go_on (go_on m (λ found l. Done (Ref target (result found).base (result found).shape) (with_cells l target (result found).cells))) (λ v. give (v ∷ []))) (one (and_then r (λ found. Ok (result found))))
fresh_matches others target n vacant h k result (Done found l) (Ok cells) same p = (
  refl,
  ap (λ a. a ∷ []) (shown ∙ ap result p.0),
  ((λ b. (let o = p.1.owns.0 b in let c = (recelled l target b (result found).cells (eqb target b) live refl).0 in omega (arith, o, c))), recelled_balance l target (result found).cells live p.1.owns.1),
  (λ b le. kept b le (eqb target b) refl ∙ unchanged_cells (with_new target others) n k l p.1 b (more b le) ∙ same b le),
)
  where
    live : 1 ≤ count_of l target
    live = let o = p.1.owns.0 target in let e = ap (λ t. cond t 1 0 + others target) (eq-eqb target target refl) in omega (arith, o, e)

    shown : read (with_cells l target (result found).cells) (Ref target (result found).base (result found).shape) ≡ result found
    shown = λ i. record { base = (result found).base; shape = (result found).shape; cells = (recelled l target target (result found).cells true live (eq-eqb target target refl)).1 i }

    impossible : 1 ≤ 0 → ⊥
    impossible q = omega (arith, q)

    more : (b : ℕ) → 1 ≤ others b → 1 ≤ with_new target others b
    more b le = omega (arith, le)

    kept : (b : ℕ) → 1 ≤ others b → (t : Bool) → eqb target b ≡ t → cells_of (with_cells l target (result found).cells) b ≡ cells_of l b
    kept b le true e = let q = ap others (eqb-true target b e) in elim (impossible (omega (arith, vacant, q, le))) [ ]
    kept b le false e = (recelled l target b (result found).cells false live e).1
fresh_matches others target n vacant h k result (Failed f q) (Err g) same p = p.0
fresh_matches others target n vacant h k result (Done found l) (Err g) same p = elim p [ ]
fresh_matches others target n vacant h k result (Failed f q) (Ok cells) same p = elim p [ ]

-- ---- a loop

module _ (cut : Option Cut) (j : Job) (core_cell : List ℤ → Ends (Option ArrayValue)) (takes : List ℤ → ℕ) (h : Heap) (others : ℕ → ℕ) (owns : Owns h [] others) (leave : AlwaysLeave others h j.form j.source core_cell takes) (blind : (v : List ℤ) → SourceIsBlind (j.source v)) where
  abbrev ran : Bool → Bool → Ended (List Value)
  ran small phase = go_on (claimed_phase cut phase j (claim small None (size j.shape) (count_phase phase (length j.indices) h))) (λ v. give (v ∷ []))

  abbrev spent : Bool → Bool → Spending
  spent small phase = record { taken = cond small 0 1 + total takes j.indices; phases = cond phase (length j.indices ∷ []) [] }

  abbrev whole : Answer
  whole = one (and_then (each core_cell j.indices) (λ found. Ok (j.result found)))

  abbrev begun : Bool → Heap
  begun phase = count_phase phase (length j.indices) h

  begun_same : (phase : Bool) → SameCells others h (begun phase)
  begun_same phase = phase_same phase (length j.indices) h others

  begun_owns : (phase : Bool) → Owns (begun phase) [] others
  begun_owns phase = phase_owns phase (length j.indices) h others owns

  small_goes : (phase : Bool) → Goes 1 others h (ran true phase) whole (spent true phase)
  small_goes phase = (
    inside_matches others (total takes j.indices) h (begun phase) j.result (phase_cells cut phase Inside j.form j.source j.indices (begun phase)) (each core_cell j.indices) (begun_same phase) cells,
    inside_spends others 0 (total takes j.indices) (cond phase (length j.indices ∷ []) []) h (begun phase) j.result (phase_cells cut phase Inside j.form j.source j.indices (begun phase)) (each core_cell j.indices) (begins phase (length j.indices) h) cells,
  )
    where
      cells : Leaves others (total takes j.indices) (begun phase) (phase_cells cut phase Inside j.form j.source j.indices (begun phase)) (each core_cell j.indices)
      cells =
          phase_leaves others (begun phase) j.form j.source core_cell takes (λ v l o s. leave others (λ b. omega arith) v l o (λ b le. s b le ∙ begun_same phase b le)) blind (begun_owns phase) cut phase Inside tt j.indices

  large_goes : (phase : Bool) → Goes 1 others h (ran false phase) whole (spent false phase)
  large_goes phase = (
    fresh_matches others target (total takes j.indices) (vacant_end l others (begun_owns phase)) h k j.result (phase_cells cut phase (Fresh target) j.form j.source j.indices k) (each core_cell j.indices) same cells,
    fresh_spends (with_new target others) 1 (total takes j.indices) target (cond phase (length j.indices ∷ []) []) h k j.result (phase_cells cut phase (Fresh target) j.form j.source j.indices k) (each core_cell j.indices) (one_more b.0, b.1, b.2) cells,
  )
    where
      l : Heap
      l = count_phase phase (length j.indices) h

      target : ℕ
      target = length (count_phase phase (length j.indices) h).buffers

      k : Heap
      k = take_buffer (replicate (size j.shape) (pos 0)) (count_phase phase (length j.indices) h)

      b : Begun 0 (cond phase (length j.indices ∷ []) []) h (count_phase phase (length j.indices) h)
      b = begins phase (length j.indices) h

      one_more : (count_phase phase (length j.indices) h).taken ≡ h.taken + 0 → (count_phase phase (length j.indices) h).taken + 1 ≡ h.taken + 1
      one_more p = omega (arith, p)

      same : SameCells others h k
      same a le = taken_same l (replicate (size j.shape) (pos 0)) others (begun_owns phase) a le ∙ begun_same phase a le

      more : (a : ℕ) → 1 ≤ others a → 1 ≤ with_new target others a
      more a le = omega (arith, le)

      cells : Leaves (with_new target others) (total takes j.indices) k (phase_cells cut phase (Fresh target) j.form j.source j.indices k) (each core_cell j.indices)
      cells =
          phase_leaves (with_new target others) k j.form j.source core_cell takes (λ v g o s. leave (with_new target others) (λ a. omega arith) v g o (λ a le. s a (more a le) ∙ same a le)) blind ((λ a. (let o = taken_owns l (replicate (size j.shape) (pos 0)) others (begun_owns phase) a in omega (arith, o))), taken_balance l (replicate (size j.shape) (pos 0)) (begun_owns phase).1) cut phase (Fresh target) tt j.indices

  pub job_goes : Goes 1 others h (one_value (phase_does cut None j) h) whole (cells_spend j.folds j.shape j.indices takes)
  job_goes = by (is_small j.shape) (j.folds || not (is_small j.shape))
    where
      by : (small phase : Bool) → Goes 1 others h (ran small phase) whole (spent small phase)
      by true phase = small_goes phase
      by false phase = large_goes phase
