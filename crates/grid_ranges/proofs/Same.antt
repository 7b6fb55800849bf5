-- A grid and the range of its numbers have the same members.
use Rattle.std.proofs.Common.{◌≡◌, ℕ, zero, suc, ◌+◌, ◌<◌, List, [], ◌∷◌, ◌++◌, get_or, length, map, take, refl, ap, sym, ◌∙◌, ℤ, arith, add-one}
use Rattle.std.specs.Prelude.{◌&&◌}
use Rattle.sac_base.specs.declared.grid.Grid1.{Grid1}
use Rattle.sac_base.specs.Grids.{has_index, within}
use Rattle.sac_base.specs.WithLoops.{holds_at, axes}
use Rattle.grid_ranges.specs.Members.{HasMembersOf}

-- on one axis
axis_same : (g : Grid1) (x : ℤ) → holds_at (record { lower = g.lo; upper = g.hi; step = g.step; width = g.width }) x ≡ has_index g x
unfolding has_index within
axis_same g x = refl

-- on all
pub members_same : (gs : List Grid1) → HasMembersOf gs (axes (map (λ (g : Grid1). g.lo) gs) (map (λ (g : Grid1). g.hi) gs) (map (λ (g : Grid1). g.step) gs) (map (λ (g : Grid1). g.width) gs))
members_same [] [] = refl
members_same [] (x ∷ xs) = refl
members_same (g ∷ gs) [] = refl
members_same (g ∷ gs) (x ∷ xs) = λ i. axis_same g x i && members_same gs xs i

-- ---- numbers of one axis more

map_more : (f : Grid1 → ℤ) (gs : List Grid1) (k : ℕ) (g : Grid1) → k < length gs → map f (take k gs) ++ f (get_or gs k g) ∷ [] ≡ map f (take (suc k) gs)
map_more f [] k g inside = absurd (omega (arith, inside))
map_more f (x ∷ gs) zero g inside = refl
map_more f (x ∷ gs) (suc k) g inside = ap (λ zs. f x ∷ zs) (map_more f gs k g (omega (arith, inside)))

pub number_pushed : (f : Grid1 → ℤ) (gs : List Grid1) (k : ℕ) (g : Grid1) (zs new : List ℤ) (z : ℤ) → k < length gs → g ≡ get_or gs k g → new ≡ zs ++ z ∷ [] → z ≡ f g → zs ≡ map f (take k gs) → new ≡ map f (take (k + 1) gs)
number_pushed f gs k g zs new z inside here pushed is before =
    pushed ∙ (λ i. before i ++ (is ∙ ap f here) i ∷ []) ∙ map_more f gs k g inside ∙ ap (λ n. map f (take n gs)) (sym (add-one k))
