-- What a finished state says.
use Rattle.std.proofs.Common.{◌≡◌, ◌≢◌, ℕ, zero, suc, ◌+◌, ◌*◌, ◌/◌, ◌<◌, ◌≤◌, ◌⊎◌, true, false, cond, eqb, ℤ, List, [], ◌∷◌, ◌++◌, length, Option, None, Some, Ok, Err, refl, sym, ap, ◌∙◌, inl, inr, ◌%◌, ⊎_elim, arith}
use Rattle.std.proofs.lemmas.Bool.{true≢false, cases_eq, cases_lt}
use Rattle.std.proofs.Math.Nat.{mod-lt, mul-le-mul_right, div-mul-le_self, le-div_iff_mul-le, div-add-mod'}
use Rattle.std.specs.Prelude.{slice_get}
use Rattle.sac_base.specs.declared.faults.Fault.{Fault}
use Rattle.sac_base.specs.Verdict.{each}
use Rattle.wl_core.specs.declared.setup.Job.{Job}
use Rattle.wl_core.specs.declared.setup.Job.TheVariants.{Write as Store, Fold}
use Rattle.wl_core.specs.Machine.{CellValue, SetupValue, StateValue, Partial, IsSetup, TakesBase, combine, first, end, chunks, listed, whole, verdict_by, Finished}
use Rattle.wl_core.specs.Facts.{Facts, NoneStopped, Settled, made_by, cell_at, value_of, own, own_cells, stored_by, partial_by}
use Rattle.wl_core.proofs.Functions.{sum-none, listed-same}
use Rattle.wl_core.proofs.FoldLaws.{foldable, elementwise-foldable}
use Rattle.wl_core.proofs.Combining.{gathered, gathered_is, same, exchange, one}

listed-cons : {X : Type 0} (f : ℕ → X) (n : ℕ) → listed f (suc n) ≡ f 0 ∷ listed (λ i. f (suc i)) n
listed-cons f zero = refl
listed-cons f (suc n) = λ j. listed-cons f n j ++ f (suc n) ∷ []

-- the first fault of a list of cells
pub first_fault : (cells : List CellValue) (p : ℕ) (fault : Fault) → slice_get cells p ≡ Some (Err fault) → ((q : ℕ) → q < p → (value : Option (List ℤ)) × (slice_get cells q ≡ Some (Ok value))) → each cells ≡ Err fault
first_fault [] p fault at before = absurd (cc)
first_fault (Err g ∷ cells) zero fault at before = cc
first_fault (Ok value ∷ cells) zero fault at before = absurd (cc)
first_fault (Err g ∷ cells) (suc p) fault at before = absurd (let b = before 0 (omega arith) in let e = b.1 in cc)
first_fault (Ok value ∷ cells) (suc p) fault at before = let rest = first_fault cells p fault at (λ q lt. before (suc q) (omega arith)) in rw rest refl

-- cells without faults
pub no_fault : (cells : List CellValue) → ((q : ℕ) → q < length cells → (value : Option (List ℤ)) × (slice_get cells q ≡ Some (Ok value))) → each cells ≡ Ok (listed (λ p. value_of (slice_get cells p)) (length cells))
no_fault [] all = refl
no_fault (Err g ∷ cells) all = absurd (let b = all 0 (omega arith) in let e = b.1 in cc)
no_fault (Ok value ∷ cells) all =
    let rest = no_fault cells (λ q lt. all (suc q) (omega arith)) in
    let front = listed-cons (λ p. value_of (slice_get (Ok value ∷ cells) p)) (length cells) in rw (rest, front) refl

-- the chunk of a position
module _ (u : SetupValue) (some_size : 1 ≤ u.size) (p : ℕ) where
  pub chunk_from : first u (p / u.size) ≤ p
  chunk_from = div-mul-le_self p u.size

  pub chunk_below : p < length u.cells → p < end u (p / u.size)
  chunk_below lt = let a : p / u.size * u.size + p % u.size ≡ p = div-add-mod' p u.size in let b : p % u.size < u.size = mod-lt p some_size in omega arith

  pub chunk_there : p < length u.cells → p / u.size < chunks u
  chunk_there lt = let a = chunk_from in let e : suc (p / u.size) * u.size ≡ p / u.size * u.size + u.size = omega arith in
      (le-div_iff_mul-le some_size).1 (omega arith)

  -- a position below the end of a chunk is not in a later one
  pub chunk_before : (c : ℕ) → p < end u c → p / u.size ≤ c
  chunk_before c lt = ⊎_elim (λ (l : p / u.size ≤ c). l) (λ (g : c < p / u.size). absurd (let m : suc c * u.size ≤ p / u.size * u.size = mul-le-mul_right u.size g in let e : suc c * u.size ≡ c * u.size + u.size = omega arith in let a = chunk_from in omega arith)) (cases_le (p / u.size) c)
    where
      cases_le : (m n : ℕ) → (m ≤ n) ⊎ (n < m)
      cases_le m n = ⊎_elim (λ (l : n < m). inr l) (λ (g : m ≤ n). inl g) (cases_lt n m)

-- where each position was written once, by one of the workers, what was stored or combined is the whole
made : (j : Job) (u : SetupValue) (s : StateValue) → TakesBase j → ((p : ℕ) → p < length u.cells → (o : ℕ) × (o < u.workers) × (s.written p ≡ o ∷ []))
    → ((p : ℕ) → s.stored p ≡ stored_by j (s.written p) (cell_at u p)) → ((w : ℕ) → s.partial w ≡ partial_by j (own_cells u s w))
    → whole j (listed (cell_at u) (length u.cells)) ≡ made_by j (length u.cells) u.workers s
made Store u s takes once stores partials =
    ap (λ (l : List (Option (List ℤ))). whole Store l) (listed-same (cell_at u) s.stored (length u.cells) (λ p lt. let o = once p lt in sym (stores p ∙ ap (λ (l : List ℕ). stored_by Store l (cell_at u p)) o.2)))
made (Fold base op) u s takes once stores partials =
    let n = length u.cells in
    let m = u.workers in
    let by = combine op in
    let laws = elementwise-foldable _ (foldable base op takes) in
    let ours : ℕ → ℕ → Option (List ℤ) = λ w p. own w (s.written p) (cell_at u p) in
    let column : (p : ℕ) → p < n → gathered by (λ w. ours w p) m ≡ cell_at u p =
    (λ p lt. let o = once p lt in same by (λ w. ours w p) (λ w. cond (eqb o.0 w) (cell_at u p) None) m (λ w l. ap (λ (k : List ℕ). own w k (cell_at u p)) o.2) ∙ one by laws o.0 (cell_at u p) m o.1) in
    let row : (w : ℕ) → w < m → s.partial w ≡ gathered by (ours w) n = (λ w lt. partials w ∙ gathered_is by (ours w) n) in
    ap (λ (x : Option (List ℤ)). Partial x)
    (gathered_is by (cell_at u) n ∙ sym (exchange by laws ours m n ∙ same by (λ p. gathered by (λ w. ours w p) m) (cell_at u) n column) ∙ sym (same by s.partial (λ w. gathered by (ours w) n) m row) ∙ sym (gathered_is by s.partial m))

module _ (u : SetupValue) (s : StateValue) (is : IsSetup u) (h : Facts u s) (fin : Finished u s) where
  -- a chunk that has no stopped one up to it has ended
  ended : (c : ℕ) → c < chunks u → ((d : ℕ) → d ≤ c → d < s.taken → s.stopped d ≡ false) → (c < s.taken) × (s.next c ≡ end u c)
  ended c lt none = ⊎_elim (λ (e : (c < s.taken) × (s.next c ≡ end u c)). e)
      (λ (r : ((c < s.taken) × (s.stopped c ≡ true)) ⊎ ((d : ℕ) × (d < c) × (d < s.taken) × (s.stopped d ≡ true))). ⊎_elim
      (λ (e : (c < s.taken) × (s.stopped c ≡ true)). absurd (true≢false (sym e.1 ∙ none c (omega arith) e.0)))
      (λ (e : (d : ℕ) × (d < c) × (d < s.taken) × (s.stopped d ≡ true)). absurd (true≢false (sym e.3 ∙ none e.0 (let x = e.1 in omega arith) e.2))) r)
      (fin.1 c lt)

  -- a position of a chunk that ended
  written : (d p : ℕ) → d < s.taken → s.next d ≡ end u d → d ≡ p / u.size → p < length u.cells → (s.written p ≡ s.owner d ∷ []) × ((value : Option (List ℤ)) × (slice_get u.cells p ≡ Some (Ok value)))
  written d p lt at e below =
      let f = chunk_from u is.size p in
      let b = chunk_below u is.size p below in
      let e' = ap (first u) e in
      let e'' = ap (end u) e in h.done d p lt (omega arith) (omega arith)

  pub written_once : NoneStopped s → (p : ℕ) → p < length u.cells → (o : ℕ) × (s.written p ≡ o ∷ [])
  written_once none p lt = let e = ended (p / u.size) (chunk_there u is.size p lt) (λ k le l. none k l) in (s.owner (p / u.size), (written (p / u.size) p e.0 e.1 refl lt).0)

  pub settled : Settled u s
  settled = record {
    fault = λ fault at.
        let c = at.0 in
        let lt = at.1 in
        let none = at.3 in
        let st = h.stops c lt at.2 in
        let within = h.within c lt in
        ap (verdict_by u.job) (first_fault u.cells (s.next c) fault at.4 (λ q below.
        let in_cells : q < length u.cells = (let x = st.0 in omega arith) in
        let d : ℕ = q / u.size in
        let before : d ≤ c = chunk_before u is.size q c (let x = st.0 in omega arith) in
        ⊎_elim
        (λ (e : d ≡ c). (h.done c q lt (let f = chunk_from u is.size q in let e' = ap (first u) e in omega arith) below).1)
        (λ (ne : d ≢ c). let e = ended d (chunk_there u is.size q in_cells) (λ k le l. none k (omega arith)) in (written d q e.0 e.1 refl in_cells).1)
        (cases_eq d c)));
    made = λ none.
        let at : (p : ℕ) → (lt : p < length u.cells) → (s.written p ≡ s.owner (p / u.size) ∷ []) × ((value : Option (List ℤ)) × (slice_get u.cells p ≡ Some (Ok value))) =
        (λ p lt. let e = ended (p / u.size) (chunk_there u is.size p lt) (λ k le l. none k l) in written (p / u.size) p e.0 e.1 refl lt) in
        let owner : (p : ℕ) → p < length u.cells → s.owner (p / u.size) < u.workers = (λ p lt. let e = ended (p / u.size) (chunk_there u is.size p lt) (λ k le l. none k l) in h.owners (p / u.size) e.0) in
        ap (verdict_by u.job) (no_fault u.cells (λ p lt. (at p lt).1)) ∙ made u.job u s is.takes (λ p lt. (s.owner (p / u.size), owner p lt, (at p lt).0)) h.stored h.partials;
    counts = λ b lt. let k = h.counts b lt in let z = sum-none (λ (w : ℕ). s.holds w b) u.workers (λ w l. fin.0 w b l lt) in omega arith;
  }
