-- What the evaluator has made of the cells so far.
use Rattle.std.specs.Prelude.{◌≡◌, ◌≤◌, ℕ, ◌+◌, ◌*◌, ℤ, Bool, true, false, List, [], ◌∷◌, ◌++◌, Option, Some, None, length, take, drop, cond}
use Rattle.sac_base.specs.Arrays.{ArrayValue, size, MOST}
use Rattle.sac_base.specs.WithLoops.{Plan}

-- the elements at a place: those of its cell, or the old ones, or the default's
abbrev pub cell_from : Bool → ArrayValue → ℕ → ℕ → Option ArrayValue → List ℤ
cell_from old background n place (Some c) = c.cells
cell_from true background n place None = take n (drop (place * n) background.cells)
cell_from false background n place None = background.cells

-- the elements of the cells from a place on
abbrev pub cells_from : Bool → ArrayValue → ℕ → ℕ → List (Option ArrayValue) → List ℤ
cells_from old background n place [] = []
cells_from old background n place (c ∷ rest) = cell_from old background n place c ++ cells_from old background n (place + 1) rest

abbrev pub array_from : Bool → ArrayValue → Plan → List (Option ArrayValue) → ArrayValue
array_from old background p found =
    record { base = background.base; shape = p.shape; cells = cells_from old background (size p.form.shape) 0 found }

-- the plan of an array: as many elements as its shape says
pub record IsArrayPlan (old : Bool) (background : ArrayValue) (p : Plan) : Type 0 where
  pub most : size p.shape ≤ MOST
  pub all : length p.indices * size p.form.shape ≡ size p.shape
  pub stands : length background.cells ≡ cond old (size p.shape) (size p.form.shape)
