-- What a cell does from a heap, by what it does from one where another number of buffers was taken.
use Rattle.std.proofs.Common.{◌≡◌, ℕ, ◌+◌, List, [], ◌∷◌, Option, None, Ok, Err, refl, sym, ap, ◌∙◌, subst, arith}
use Rattle.counted_code.specs.Loops.{Source, Inside, cell_does}
use Rattle.counted_code.specs.Values.{Heap, Ended, Done, Failed, Doing, give, go_on}
use Rattle.phase_laws.specs.Alone.{Unchanged, Leaves}
use Rattle.phase_laws.specs.Numbers.{with_more, ends_with_more, IsBlind, SourceIsBlind}
use Rattle.phase_laws.proofs.Blind.{cells_blind}
use Rattle.sac_base.specs.declared.form.Form.{Form}
use Rattle.sac_base.specs.Arrays.{ArrayValue}
use Rattle.sac_base.specs.Outcomes.{Ends}

-- ---- one cell

abbrev first_of_cells : Ended (List (Option ArrayValue)) → Ended (Option ArrayValue)
first_of_cells (Done [] h) = Done None h
first_of_cells (Done (c ∷ cs) h) = Done c h
first_of_cells (Failed f phases) = Failed f phases

first_alone : (m : Ended (Option ArrayValue)) → first_of_cells (go_on m (λ c. give (c ∷ []))) ≡ m
first_alone (Done c h) = refl
first_alone (Failed f phases) = refl

first_with_more : (t g r : ℕ) (m : Ended (Option ArrayValue)) → first_of_cells (ends_with_more t g r (go_on m (λ c. give (c ∷ [])))) ≡ ends_with_more t g r m
first_with_more t g r (Done c h) = refl
first_with_more t g r (Failed f phases) = refl

-- one cell is the only one of a list of them
pub cell_blind : (form : Form) (o : Option Source) → SourceIsBlind o → IsBlind (cell_does form o)
cell_blind form o blind t g r h =
    sym (first_alone (cell_does form o (with_more t g r h)))
    ∙ ap first_of_cells (cells_blind form (λ v. o) (λ v. blind) Inside 0 ([] ∷ []) t g r h)
    ∙ first_with_more t g r (cell_does form o h)

-- ---- what is left

-- so many buffers were taken, and the heap is unchanged if so many were taken before
pub record LeftAs (holding : ℕ → ℕ) (taken n : ℕ) (k l : Heap) : Type 0 where
  pub unchanged : Unchanged holding n (record k { taken = taken }) (record l { taken = taken + n })
  pub more : l.taken ≡ k.taken + n

-- what holds no references ends as the core does, and leaves the heap unchanged if so many buffers were taken before
abbrev pub LeavesAs : {A : Type 0} → (ℕ → ℕ) → ℕ → ℕ → Heap → Ended A → Ends A → Type 0
LeavesAs holding taken n k (Done a l) (Ok b) = (a ≡ b) × LeftAs holding taken n k l
LeavesAs holding taken n k (Failed f phases) (Err g) = f ≡ g
LeavesAs _ _ _ _ _ _ = ⊥

before : (n : ℕ) → 0 + n ≡ n
before n = omega arith

behind : (n : ℕ) → n + 0 ≡ n
behind n = omega arith

-- the heap from a common one where nothing was taken yet
counted_up : (k : Heap) (t : ℕ) → with_more t 0 0 (record k { taken = 0 }) ≡ record k { taken = t }
counted_up k t = λ i. record k { taken = before t i; given = behind k.given i; reused = behind k.reused i }

pub leaves_as : {A : Type 0} (holding : ℕ → ℕ) (t n : ℕ) (k : Heap) (m : Doing A) (c : Ends A) → IsBlind m → Leaves holding n (record k { taken = t }) (m (record k { taken = t })) c → LeavesAs holding t n k (m k) c
leaves_as {A} holding t n k m c blind leaves =
    subst (λ e. LeavesAs holding t n k e c) (sym (from k.taken))
    (go (m (record k { taken = 0 })) c (subst (λ e. Leaves holding n (record k { taken = t }) e c) (from t) leaves))
  where
    from : (u : ℕ) → m (record k { taken = u }) ≡ ends_with_more u 0 0 (m (record k { taken = 0 }))
    from u = ap m (sym (counted_up k u)) ∙ blind u 0 0 (record k { taken = 0 })

    taken_more : (x u : ℕ) → x + t ≡ t + n → x + u ≡ u + n
    taken_more x u is = omega (arith, is)

    go : (e : Ended A) (c : Ends A) → Leaves holding n (record k { taken = t }) (ends_with_more t 0 0 e) c → LeavesAs holding t n k (ends_with_more k.taken 0 0 e) c
    go (Done a x) (Ok b) p = (
      p.0,
      record {
        unchanged = subst (λ j. Unchanged holding n (record k { taken = t }) (record (with_more t 0 0 x) { taken = j })) p.1.taken p.1;
        more = taken_more x.taken k.taken p.1.taken;
      },
    )
    go (Failed f phases) (Err g) p = p.0
    go (Done a x) (Err g) p = elim p [ ]
    go (Failed f phases) (Ok b) p = elim p [ ]
