-- A loop over cells with a mark does what its core means.
use Rattle.std.proofs.Common.{◌≡◌, ℕ, ◌+◌, ◌<◌, Bool, true, false, cond, drop, List, [], ◌∷◌, length, ℤ, pos, Option, Some, None, Ok, Err, refl, ap, ◌∙◌, sym, subst, arith}
use Rattle.std.specs.Prelude.{◌==◌, ◌||◌, not, replicate}
use Rattle.std.specs.List.{flat_map}
use Rattle.std.proofs.lemmas.Bool.{eqb-true, eq-eqb}
use Rattle.sac_base.specs.declared.base.Base.{Base}
use Rattle.sac_base.specs.Arrays.{ArrayValue, size}
use Rattle.sac_base.specs.Outcomes.{Ends, and_then}
use Rattle.sac_base.specs.Places.{vector_at}
use Rattle.sac_base.specs.WithLoops.{each}
use Rattle.core_ir.specs.Meaning.{Answer, elements_of, one}
use Rattle.counted_code.specs.Values.{Heap, Value, Small, Ref, Ended, Done, Failed, give, go_on, is_small, count_of, cells_of, release, take_buffer}
use Rattle.counted_code.specs.Loops.{Job, cells_do, Target, Inside, Fresh, Old, write_cell, settled, claim, claim_new, claim_old, count_phase, claimed_does, job_does}
use Rattle.counted_code.specs.Machine.{one_value}
use Rattle.counted_laws.specs.Simulation.{refers, held, Owns, SameCells, Matches}
use Rattle.counted_laws.proofs.Held.{backed_reads, released_owns, released_same}
use Rattle.counted_laws.proofs.Cells.{AlwaysLinked, job_matches}
use Rattle.phase_loop_laws.proofs.mark_laws.Places.{From}
use Rattle.phase_loop_laws.proofs.mark_laws.Over.{holding, LinkedOver, cells_over, over_matches}

-- ---- a reference that is released after the loop

released_after : (others : ℕ → ℕ) (h : Heap) (w : Value) (m : Ended Value) (a : Answer) → Matches 1 (λ b. refers b w + others b) h (go_on m (λ v. give (v ∷ []))) a → Matches 1 others h (go_on (go_on m (λ v after. Done v (release w after))) (λ v. give (v ∷ []))) a
released_after others h w (Failed f p) (Err g) r = r
released_after others h w (Failed f p) (Ok ws) r = elim r [ ]
released_after others h w (Done v k) (Err g) r = elim r [ ]
released_after others h w (Done v k) (Ok ws) r =
    let owns : Owns k (w ∷ (v ∷ [])) others = ((λ b. (let o = r.2.0 b in omega (arith, o))), r.2.1) in
    let same : SameCells (λ b. held b (v ∷ []) + others b) k (release w k) = released_same k w (v ∷ []) others owns in (
      refl,
      (λ i. backed_reads (λ b. held b (v ∷ []) + others b) k (release w k) v (λ b. omega arith) same i ∷ []) ∙ r.1,
      released_owns k w (v ∷ []) others owns,
      (λ b le. same b (omega (arith, le)) ∙ r.3 b (omega (arith, le))),
    )

claimed_rest : (j : Job) (t : Target) (w : Value) (l : Heap) → claimed_does j (record { target = t; rest = Some w; heap = l }) ≡ go_on (claimed_does j (record { target = t; rest = None; heap = l })) (λ v after. Done v (release w after))
claimed_rest j t w l = go (cells_do j.form j.source (write_cell t) 0 j.indices l)
  where
    inner : (m : Ended Value) → go_on m (λ v after. Done v (release w after)) ≡ go_on (go_on m (λ v after. Done v after)) (λ v after. Done v (release w after))
    inner (Done v k) = refl
    inner (Failed f p) = refl

    go : (m : Ended (List (Option ArrayValue))) → go_on m (λ found heap. go_on (settled t (j.result found) heap) (λ v after. Done v (release w after))) ≡ go_on (go_on m (λ found heap. go_on (settled t (j.result found) heap) (λ v after. Done v after))) (λ v after. Done v (release w after))
    go (Done found k) = inner (settled t (j.result found) k)
    go (Failed f p) = refl

with_rest : (j : Job) (t : Target) (w : Value) (l h : Heap) (others : ℕ → ℕ) (a : Answer) → Matches 1 (λ b. refers b w + others b) h (go_on (claimed_does j (record { target = t; rest = None; heap = l })) (λ v. give (v ∷ []))) a → Matches 1 others h (go_on (claimed_does j (record { target = t; rest = Some w; heap = l })) (λ v. give (v ∷ []))) a
with_rest j t w l h others a r =
    subst (λ m. Matches 1 others h (go_on m (λ v. give (v ∷ []))) a) (sym (claimed_rest j t w l))
    (released_after others h w (claimed_does j (record { target = t; rest = None; heap = l })) a r)

-- ---- the array's own buffer

-- the heap in which the cells run
abbrev pub reusing : Bool → ℕ → Heap → Heap
reusing phase n h = record (count_phase phase n h) { reused = (count_phase phase n h).reused + 1 }

-- ---- for those who run such a loop

-- the array's buffer is not taken over
abbrev pub IsSpared : Bool → Heap → Value → Type 0
IsSpared true h w = Unit {0}
IsSpared false h (Small a) = Unit {0}
IsSpared false h (Ref buffer base shape) = (count_of h buffer == 1) ≡ false

phase_count : (phase : Bool) (n : ℕ) (h : Heap) (buffer : ℕ) → count_of (count_phase phase n h) buffer ≡ count_of h buffer
phase_count true n h buffer = refl
phase_count false n h buffer = refl

-- then the loop does what it does without the mark, whose reference is released after it
pub job_rest : (j : Job) (w : Value) (h : Heap) → IsSpared (is_small j.shape) h w → job_does (Some w) j h ≡ go_on (job_does None j h) (λ v after. Done v (release w after))
job_rest j w h spared = go (is_small j.shape) (j.folds || not (is_small j.shape)) w spared
  where
    new : (phase : Bool) (w : Value) → claimed_does j (claim_new (size j.shape) (Some w) (count_phase phase (length j.indices) h)) ≡ go_on (claimed_does j (claim_new (size j.shape) None (count_phase phase (length j.indices) h))) (λ v after. Done v (release w after))
    new phase w =
        let l = count_phase phase (length j.indices) h in
        claimed_rest j (Fresh (length l.buffers)) w (take_buffer (replicate (size j.shape) (pos 0)) l)

    go : (small phase : Bool) (w : Value) → IsSpared small h w → claimed_does j (claim small (Some w) (size j.shape) (count_phase phase (length j.indices) h)) ≡ go_on (claimed_does j (claim small None (size j.shape) (count_phase phase (length j.indices) h))) (λ v after. Done v (release w after))
    go true phase w spared = claimed_rest j Inside w (count_phase phase (length j.indices) h)
    go false phase (Small a) spared = new phase (Small a)
    go false phase (Ref buffer base shape) spared =
        ap (λ sole. claimed_does j (claim_old sole buffer (Ref buffer base shape) (size j.shape) (count_phase phase (length j.indices) h))) (ap (λ n. n == 1) (phase_count phase (length j.indices) h buffer) ∙ spared)
        ∙ new phase (Ref buffer base shape)

-- where it is, the cells are written into it, and the value is a reference to it
pub job_over : (j : Job) (buffer : ℕ) (base : Base) (shape : List ℕ) (h : Heap) → is_small j.shape ≡ false → (count_of h buffer == 1) ≡ true
    → job_does (Some (Ref buffer base shape)) j h ≡ go_on (cells_do j.form j.source (write_cell (Old buffer)) 0 j.indices (reusing true (length j.indices) h)) (λ found after. Done (Ref buffer (j.result found).base (j.result found).shape) after)
job_over j buffer base shape h small sole =
    (λ i. claimed_does j (claim (small i) (Some (Ref buffer base shape)) (size j.shape) (count_phase (j.folds || not (small i)) (length j.indices) h)))
    ∙ ap (λ phase. claimed_does j (claim false (Some (Ref buffer base shape)) (size j.shape) (count_phase phase (length j.indices) h))) (always j.folds)
    ∙ ap (λ one. claimed_does j (claim_old one buffer (Ref buffer base shape) (size j.shape) (count_phase true (length j.indices) h))) sole
  where
    always : (folds : Bool) → (folds || true) ≡ true
    always true = refl
    always false = refl

module _ (j : Job) (core_cell : List ℤ → Ends (Option ArrayValue)) (h : Heap) (others : ℕ → ℕ) where
  -- what the loop comes to
  abbrev meaning : Answer
  meaning = one (and_then (each core_cell j.indices) (λ found. Ok (j.result found)))

  -- the cells may be written over the buffer, which becomes the result
  abbrev pub CanTakeOver : ℕ → Type 0
  CanTakeOver buffer =
      (length (cells_of h buffer) ≡ length j.indices) × ((found : List (Option ArrayValue)) → (j.result found).cells ≡ flat_map elements_of found)
      × ((vacant : others buffer ≡ 0) → (ns : List ℕ) × ((form : j.form.shape ≡ []) × (From ns 0 j.indices × (
      (p : ℕ) (v : List ℤ) → p < size ns → v ≡ vector_at ns p → LinkedOver buffer others vacant h ns j.form form p (j.source v) (core_cell v)))))

  sole : (buffer : ℕ) (base : Base) (shape : List ℕ) → Owns h (Ref buffer base shape ∷ []) others → count_of h buffer ≡ 1 → others buffer ≡ 0
  sole buffer base shape owns is =
      let o = owns.0 buffer in
      let e = ap (λ t. cond {A = ℕ} t 1 0 + others buffer) (eq-eqb buffer buffer refl) in
      omega (arith, o, e, is)

  over_old : (buffer : ℕ) (base : Base) (shape : List ℕ) (phase : Bool) → Owns h (Ref buffer base shape ∷ []) others → count_of h buffer ≡ 1 → CanTakeOver buffer
      → Matches 1 others h (go_on (claimed_does j (record { target = Old buffer; rest = None; heap = reusing phase (length j.indices) h })) (λ v. give (v ∷ []))) meaning
  over_old buffer base shape phase owns is can = go phase
    where
      vacant : others buffer ≡ 0
      vacant = sole buffer base shape owns is

      held_now : Owns h [] (holding buffer others vacant)
      held_now = ((λ b. (let o = owns.0 b in omega (arith, o))), owns.1)

      over : (k : Heap) → Owns k [] (holding buffer others vacant) → SameCells others h k → cells_of k buffer ≡ cells_of h buffer → Matches 1 others h (go_on (claimed_does j (record { target = Old buffer; rest = None; heap = k })) (λ v. give (v ∷ []))) meaning
      over k owned same cells =
          let c = can.2 vacant in
          let long = ap length cells ∙ can.0 in
          let run = cells_over buffer others vacant h c.0 j.form c.1.0 j.source core_cell c.1.1.1 j.indices 0 k c.1.1.0 owned same (ap (drop 0) cells) (omega (arith, long)) in
          over_matches buffer others vacant h k j.result can.1 (cells_do j.form j.source (write_cell (Old buffer)) 0 j.indices k) (each core_cell j.indices) same run.0 run.1

      go : (phase : Bool) → Matches 1 others h (go_on (claimed_does j (record { target = Old buffer; rest = None; heap = reusing phase (length j.indices) h })) (λ v. give (v ∷ []))) meaning
      go true = over (reusing true (length j.indices) h) held_now (λ b le. refl) refl
      go false = over (reusing false (length j.indices) h) held_now (λ b le. refl) refl

  -- the loop with a mark whose value this is
  pub marked_job : (w : Value) → Owns h (w ∷ []) others → ((v : List ℤ) → AlwaysLinked (λ b. refers b w + others b) h j.form (j.source v) (core_cell v))
      → ((buffer : ℕ) (base : Base) (shape : List ℕ) → w ≡ Ref buffer base shape → CanTakeOver buffer) → Matches 1 others h (one_value (job_does (Some w) j) h) meaning
  marked_job w owns linked can =
      go (is_small j.shape) (j.folds || not (is_small j.shape)) (job_matches j core_cell h (λ b. refers b w + others b) ((λ b. (let o = owns.0 b in omega (arith, o))), owns.1) linked)
    where
      -- with a new buffer the reference is released after the loop
      released_new : (phase : Bool) → Matches 1 (λ b. refers b w + others b) h (go_on (claimed_does j (claim_new (size j.shape) None (count_phase phase (length j.indices) h))) (λ v. give (v ∷ []))) meaning
          → Matches 1 others h (go_on (claimed_does j (claim_new (size j.shape) (Some w) (count_phase phase (length j.indices) h))) (λ v. give (v ∷ []))) meaning
      released_new phase r =
          let l = count_phase phase (length j.indices) h in
          with_rest j (Fresh (length l.buffers)) w (take_buffer (replicate (size j.shape) (pos 0)) l) h others meaning r

      by : (phase : Bool) → Matches 1 (λ b. refers b w + others b) h (go_on (claimed_does j (claim_new (size j.shape) None (count_phase phase (length j.indices) h))) (λ v. give (v ∷ []))) meaning
          → (u : Value) → w ≡ u → Matches 1 others h (go_on (claimed_does j (claim false (Some u) (size j.shape) (count_phase phase (length j.indices) h))) (λ v. give (v ∷ []))) meaning
      by phase r (Small a) is =
          subst (λ (u : Value). Matches 1 others h (go_on (claimed_does j (claim_new (size j.shape) (Some u) (count_phase phase (length j.indices) h))) (λ v. give (v ∷ []))) meaning) is
          (released_new phase r)
      by phase r (Ref buffer base shape) is = go (count_of (count_phase phase (length j.indices) h) buffer == 1) refl
        where
          number : (phase : Bool) → count_of (count_phase phase (length j.indices) h) buffer ≡ count_of h buffer
          number true = refl
          number false = refl

          go : (sole : Bool) → (count_of (count_phase phase (length j.indices) h) buffer == 1) ≡ sole
              → Matches 1 others h (go_on (claimed_does j (claim_old sole buffer (Ref buffer base shape) (size j.shape) (count_phase phase (length j.indices) h))) (λ v. give (v ∷ []))) meaning
          go true e =
              over_old buffer base shape phase (subst (λ u. Owns h (u ∷ []) others) is owns) (sym (number phase) ∙ eqb-true (count_of (count_phase phase (length j.indices) h) buffer) 1 e) (can buffer base shape is)
          go false e =
              subst (λ (u : Value). Matches 1 others h (go_on (claimed_does j (claim_new (size j.shape) (Some u) (count_phase phase (length j.indices) h))) (λ v. give (v ∷ []))) meaning) is
              (released_new phase r)

      go : (small phase : Bool) → Matches 1 (λ b. refers b w + others b) h (go_on (claimed_does j (claim small None (size j.shape) (count_phase phase (length j.indices) h))) (λ v. give (v ∷ []))) meaning
          → Matches 1 others h (go_on (claimed_does j (claim small (Some w) (size j.shape) (count_phase phase (length j.indices) h))) (λ v. give (v ∷ []))) meaning
      go true phase r = with_rest j Inside w (count_phase phase (length j.indices) h) h others meaning r
      go false phase r = by phase r w refl
