-- Cells by the places of their indices.
use Rattle.std.proofs.Common.{◌≡◌, ℕ, zero, suc, ◌+◌, List, [], ◌∷◌, ◌++◌, map, length, ℤ, Bool, Option, Some, None, Ok, Err, refl, ap, ◌∙◌, arith}
use Rattle.std.specs.Prelude.{flat_map}
use Rattle.sac_base.specs.Arrays.{ArrayValue}
use Rattle.sac_base.specs.Operators.{all_of, with_first}
use Rattle.sac_base.specs.Outcomes.{Ends}
use Rattle.sac_base.specs.Verdict.{present, joined}
use Rattle.sac_base.specs.WithLoops.{each}
use Rattle.core_ir.specs.Meaning.{elements_of}
use Rattle.phase_laws.specs.Spending.{total}
use Rattle.array_with_loops.specs.Cells.{cell_from, cells_from as placed_from}
use Rattle.wl_core.specs.Machine.{CellValue}
use Rattle.phase_team.specs.Segments.{cells_from, cost_from}
use Rattle.phase_loop_laws.specs.Worked.{filled, unfilled, elements_or, as_cell, index_at, worked}

-- ---- places one after another

later_cells : (f : ℕ → CellValue) (s n : ℕ) → cells_from f (suc s) n ≡ cells_from (λ p. f (suc p)) s n
later_cells f s zero = refl
later_cells f s (suc n) = λ i. f (suc s) ∷ later_cells f (suc s) n i

later_costs : (f : ℕ → ℕ) (s n : ℕ) → cost_from f (suc s) n ≡ cost_from (λ p. f (suc p)) s n
later_costs f s zero = refl
later_costs f s (suc n) = λ i. f (suc s) + later_costs f (suc s) n i

pub costs_in_all : (takes : List ℤ → ℕ) (vs : List (List ℤ)) → cost_from (λ p. takes (index_at vs p)) 0 (length vs) ≡ total takes vs
costs_in_all takes [] = refl
costs_in_all takes (v ∷ vs) =
    λ i. takes v + (later_costs (λ p. takes (index_at (v ∷ vs) p)) 0 (length vs) ∙ costs_in_all takes vs) i

-- ---- what all cells come to

-- the elements of cells, or what stands at their places
abbrev pub elements_at : (ℕ → Option (List ℤ)) → List (Option ArrayValue) → List (Option (List ℤ))
elements_at fill [] = []
elements_at fill (c ∷ cs) = elements_or (fill 0) c ∷ elements_at (λ p. fill (suc p)) cs

abbrev pub all_elements : (ℕ → Option (List ℤ)) → Ends (List (Option ArrayValue)) → Ends (List (Option (List ℤ)))
all_elements fill (Ok cs) = Ok (elements_at fill cs)
all_elements fill (Err f) = Err f

one_before : (fill : ℕ → Option (List ℤ)) (c : Option ArrayValue) (r : Ends (List (Option ArrayValue))) → with_first (elements_or (fill 0) c) (all_elements (λ p. fill (suc p)) r) ≡ all_elements fill (with_first c r)
one_before fill c (Ok cs) = refl
one_before fill c (Err f) = refl

cell_before : (fill : ℕ → Option (List ℤ)) (c : Ends (Option ArrayValue)) (rest : List (Ends (Option ArrayValue))) (later : List CellValue) → all_of later ≡ all_elements (λ p. fill (suc p)) (all_of rest) → all_of (as_cell (fill 0) c ∷ later) ≡ all_elements fill (all_of (c ∷ rest))
cell_before fill (Err f) rest later e = refl
cell_before fill (Ok c) rest later e = ap (with_first (elements_or (fill 0) c)) e ∙ one_before fill c (all_of rest)

pub cells_in_all : (cell : List ℤ → Ends (Option ArrayValue)) (fill : ℕ → Option (List ℤ)) (vs : List (List ℤ)) → all_of (cells_from (worked fill cell vs) 0 (length vs)) ≡ all_elements fill (each cell vs)
cells_in_all cell fill [] = refl
cells_in_all cell fill (v ∷ vs) =
    cell_before fill (cell v) (map cell vs) (cells_from (worked fill cell (v ∷ vs)) 1 (length vs))
    (ap all_of (later_cells (worked fill cell (v ∷ vs)) 0 (length vs)) ∙ cells_in_all cell (λ p. fill (suc p)) vs)

-- ---- what is made of them

-- where nothing stands behind the cells
pub joined_unfilled : (cs : List (Option ArrayValue)) → joined (present (elements_at unfilled cs)) ≡ flat_map elements_of cs
joined_unfilled [] = refl
joined_unfilled (None ∷ cs) = joined_unfilled cs
joined_unfilled (Some a ∷ cs) = ap (λ zs. a.cells ++ zs) (joined_unfilled cs)

-- where there are elements at each place
module _ (old : Bool) (background : ArrayValue) (n : ℕ) where
  abbrev stands : ℕ → List ℤ
  stands place = cell_from old background n place None

  next_place : (k p : ℕ) → k + suc p ≡ (k + 1) + p
  next_place k p = omega arith

  first_place : (k : ℕ) → k + 0 ≡ k
  first_place k = omega arith

  joined_from : (g : ℕ → List ℤ) (k : ℕ) → ((p : ℕ) → g p ≡ stands (k + p)) → (cs : List (Option ArrayValue)) → joined (present (elements_at (λ p. Some (g p)) cs)) ≡ placed_from old background n k cs
  joined_from g k e [] = refl
  joined_from g k e (None ∷ cs) =
      λ i. (e 0 ∙ ap stands (first_place k)) i ++ joined_from (λ p. g (suc p)) (k + 1) (λ p. e (suc p) ∙ ap stands (next_place k p)) cs i
  joined_from g k e (Some a ∷ cs) =
      λ i. a.cells ++ joined_from (λ p. g (suc p)) (k + 1) (λ p. e (suc p) ∙ ap stands (next_place k p)) cs i

  none_before : (p : ℕ) → stands p ≡ stands (0 + p)
  none_before p = ap stands (omega arith)

  pub joined_filled : (cs : List (Option ArrayValue)) → joined (present (elements_at (filled old background n) cs)) ≡ placed_from old background n 0 cs
  joined_filled cs = joined_from stands 0 none_before cs
