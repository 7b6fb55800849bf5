use Rattle.std.proofs.Common.{◌≡◌, ℕ, ◌+◌, ◌<◌, ◌≤◌, ◌⊎◌, inl, inr, arith, sym, subst, ◌∙◌, List, length, take, get_or}
use Rattle.std.specs.Prelude.{ℤ, ◌≤ℤ◌}
use Rattle.std.specs.List.{All}
use Rattle.std.proofs.lemmas.Int.{ints}
use Rattle.std.proofs.lemmas.List.{take_all}
use Rattle.std.proofs.lemmas.List.Elements.{All-more, All-weaker}
use Rattle.grid_sets.specs.Segments.{NoCut, IsBound}
use Rattle.sac_base.specs.declared.grid.Grid1.{Grid1}

lower : (x f t u : ℤ) → u ≤ℤ t → (x ≤ℤ f) ⊎ (t ≤ℤ x) → (x ≤ℤ f) ⊎ (u ≤ℤ x)
lower x f t u h (inl a) = inl a
lower x f t u h (inr b) = inr (omega (arith, ints))

pub cut_here : (g : Grid1) (from sf mf t u : ℤ) → sf ≡ from → mf ≡ sf → u ≤ℤ t → (g.lo ≤ℤ sf) ⊎ (t ≤ℤ g.lo) → (g.hi ≤ℤ mf) ⊎ (u ≤ℤ g.hi) → NoCut from u g
cut_here g from sf mf t u e f h lo hi =
    (subst (λ z. (g.lo ≤ℤ z) ⊎ (u ≤ℤ g.lo)) e (lower g.lo sf t u h lo), subst (λ z. (g.hi ≤ℤ z) ⊎ (u ≤ℤ g.hi)) (f ∙ e) hi)

pub cuts_more : (grids : List Grid1) (i : ℕ) (g : Grid1) (from t u : ℤ) → g ≡ get_or grids i g → i < length grids → u ≤ℤ t
    → All (NoCut from t) (take i grids) → NoCut from u g → All (NoCut from u) (take (i + 1) grids)
cuts_more grids i g from t u is low h before here =
    All-more (NoCut from u) grids i g low
    (All-weaker (NoCut from t) (NoCut from u) (λ p n. (lower p.lo from t u h n.0, lower p.hi from t u h n.1)) (take i grids) before)
    (subst (NoCut from u) is here)

pub cuts_all : (grids : List Grid1) (i : ℕ) (from t : ℤ) → length grids ≤ i → All (NoCut from t) (take i grids) → All (NoCut from t) grids
cuts_all grids i from t h all = subst (All (NoCut from t)) (take_all i grids h) all

pub bound_here : (grids : List Grid1) (i : ℕ) (g : Grid1) (x : ℤ) → g ≡ get_or grids i g → i < length grids → (x ≡ g.lo) ⊎ (x ≡ g.hi) → IsBound grids x
bound_here grids i g x is low end = (i, g, low, sym is, end)

-- where the segment ends after one more grid's bounds
pub end_here : (grids : List Grid1) (i : ℕ) (g : Grid1) (t m u to : ℤ) → g ≡ get_or grids i g → i < length grids
    → (t ≡ to) ⊎ IsBound grids t → (m ≡ t) ⊎ (m ≡ g.lo) → (u ≡ m) ⊎ (u ≡ g.hi) → (u ≡ to) ⊎ IsBound grids u
end_here grids i g t m u to is low before lo (inr hi) = inr (bound_here grids i g u is low (inr hi))
end_here grids i g t m u to is low before (inr lo) (inl same) = inr (bound_here grids i g u is low (inl (same ∙ lo)))
end_here grids i g t m u to is low (inl end) (inl lo) (inl same) = inl (same ∙ lo ∙ end)
end_here grids i g t m u to is low (inr bound) (inl lo) (inl same) = inr (subst (IsBound grids) (sym (same ∙ lo)) bound)

raise : (x f t g u : ℤ) → f ≤ℤ g → u ≤ℤ t → (x ≤ℤ f) ⊎ (t ≤ℤ x) → (x ≤ℤ g) ⊎ (u ≤ℤ x)
raise x f t g u h k (inl a) = inl (omega (arith, ints))
raise x f t g u h k (inr b) = inr (omega (arith, ints))

-- a segment inside one without cuts
pub narrower : (f t g u : ℤ) (grid : Grid1) → f ≤ℤ g → u ≤ℤ t → NoCut f t grid → NoCut g u grid
narrower f t g u grid h k cut = (raise grid.lo f t g u h k cut.0, raise grid.hi f t g u h k cut.1)

pub all_narrower : (grids : List Grid1) (f t g u : ℤ) → f ≤ℤ g → u ≤ℤ t → All (NoCut f t) grids → All (NoCut g u) grids
all_narrower grids f t g u h k all = All-weaker (NoCut f t) (NoCut g u) (λ p n. narrower f t g u p h k n) grids all
