-- The common periods of two grids, axis by axis.
use Rattle.std.proofs.Common.{◌≡◌, ℕ, zero, suc, ◌<◌, ◌≤◌, arith, refl, sym, ap, subst, ◌∙◌, List, [], ◌∷◌, length, get_or}
use Rattle.std.specs.List.{Any}
use Rattle.std.proofs.lemmas.List.{get_or_default}
use Rattle.sac_base.specs.declared.grid.Grid1.{Grid1}
use Rattle.grid_sets.specs.Segments.{IsTooFine, steps_of}
use Rattle.grid_sets.specs.Periods.{IsCommonPeriod}
use Rattle.grid_sets.proofs.Pairs.{never_too_fine}
use Rattle.generator_sets.specs.Pieces.{axis_grids}
use Rattle.std.proofs.Common.{Bool, true, false, IsTrue, Result, Ok, Err}
use Rattle.generator_sets.specs.declared.error.GenError.{GenError}
use Rattle.generator_sets.specs.declared.error.GenError.TheVariants.{TooMany, TooFine, Memory}
use Rattle.generator_sets.specs.Counts.{CommonPeriods, IsDue, IsManyWhere}
use Rattle.generator_sets.proofs.Uniformity.{column_cons}

pub period_at : (as' bs : List Grid1) (ps : List ℕ) → CommonPeriods as' bs ps → (k : ℕ) (a b : Grid1) → k < length as' → IsCommonPeriod (get_or as' k a) (get_or bs k b) (get_or ps k 0)
period_at [] bs [] h k a b l = absurd (omega arith)
period_at [] bs (p ∷ ps) h k a b l = absurd h
period_at (x ∷ xs) bs [] h k a b l = absurd h
period_at (x ∷ xs) [] (p ∷ ps) h k a b l = absurd h
period_at (x ∷ xs) (y ∷ ys) (p ∷ ps) h zero a b l = h.0
period_at (x ∷ xs) (y ∷ ys) (p ∷ ps) h (suc k) a b l = period_at xs ys ps h.1 k a b (omega arith)

pub periods_long : (as' bs : List Grid1) (ps : List ℕ) → CommonPeriods as' bs ps → length ps ≡ length as'
periods_long [] bs [] h = refl
periods_long [] bs (p ∷ ps) h = absurd h
periods_long (x ∷ xs) bs [] h = absurd h
periods_long (x ∷ xs) [] (p ∷ ps) h = absurd h
periods_long (x ∷ xs) (y ∷ ys) (p ∷ ps) h = ap suc (periods_long xs ys ps h.1)

pub column_of_two : (k : ℕ) (a b : List Grid1) (x y : Grid1) → x ≡ get_or a k x → y ≡ get_or b k y → k < length a → k < length b → axis_grids k (a ∷ b ∷ []) ≡ x ∷ y ∷ []
column_of_two k a b x y e f h l =
    column_cons k a (b ∷ []) x h ∙ ap (λ z. z ∷ axis_grids k (b ∷ [])) (sym e) ∙ ap (λ c. x ∷ c) (column_cons k b [] y l) ∙ ap (λ z. x ∷ z ∷ []) (sym f)

-- an axis whose common period is at most 4,096
pub coarse_axis : (limit k : ℕ) (a b : List Grid1) (x y : Grid1) → x ≡ get_or a k x → y ≡ get_or b k y → k < length a → k < length b → 4096 ≤ limit → steps_of x ≤ limit → steps_of y ≤ limit
    → ((p : ℕ) × IsCommonPeriod x y p × (p ≤ 4096)) → IsTooFine limit (axis_grids k (a ∷ b ∷ [])) → ⊥
coarse_axis limit k a b x y e f h l low sx sy coarse fine =
    never_too_fine limit x y low sx sy coarse (subst (IsTooFine limit) (column_of_two k a b x y e f h l) fine)

pub here_period : (a b : List Grid1) (ps : List ℕ) (k : ℕ) (x y : Grid1) → x ≡ get_or a k x → y ≡ get_or b k y → k < length a → CommonPeriods a b ps → IsCommonPeriod x y (get_or ps k 0)
here_period a b ps k x y e f h common =
    subst (λ z. IsCommonPeriod z y (get_or ps k 0)) (sym e) (subst (λ z. IsCommonPeriod (get_or a k x) z (get_or ps k 0)) (sym f) (period_at a b ps common k x y h))

pub some_fine : (a b : List Grid1) (ps : List ℕ) (k : ℕ) → CommonPeriods a b ps → k < length a → 4096 < get_or ps k 0 → Any (λ p. 4096 < p) ps
some_fine a b ps k common h fine =
    let low : k < length ps = omega (arith, periods_long a b ps common) in
    (k, get_or ps k 0, low, get_or_default ps k (get_or ps k 0) 0 low, fine)

pub none_fine : (ps : List ℕ) → ((j : ℕ) → j < length ps → get_or ps j 0 ≤ 4096) → Any (λ p. 4096 < p) ps → ⊥
none_fine ps low (j, p, h, is, fine) =
    let l = low j h in omega (arith, is, get_or_default ps j p 0 h)

-- what holds of a true test
pub true_holds : (t : Bool) → t ≡ true → IsTrue t
true_holds t e = e

pub false_fails : (t : Bool) → t ≡ false → IsTrue t → ⊥
false_fails t e h = absurd (cc)

pub both_copies : {X : Type 0} (a b x y : X) → x ≡ a → y ≡ b → x ∷ y ∷ [] ≡ a ∷ b ∷ []
both_copies a b x y e f = ap (λ z. z ∷ y ∷ []) e ∙ ap (λ z. a ∷ z ∷ []) f

-- where whether a period is too fine was decided apart, the count is left
pub due_many : {A : Type 0} (limit greatest count : ℕ) (r : Result A GenError) → IsDue limit greatest count r → IsManyWhere count r
due_many limit greatest count (Ok x) h = h.1
due_many limit greatest count (Err TooMany) h = h.1
due_many limit greatest count (Err TooFine) h = tt
due_many limit greatest count (Err Memory) h = tt
