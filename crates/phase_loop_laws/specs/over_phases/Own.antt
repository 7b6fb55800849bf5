-- Cells that read of one variable's array their own element alone.
use Rattle.std.specs.Prelude.{◌≡◌, ℕ, ◌<◌, false, eqb, List, [], length, get_or, ℤ, Option}
use Rattle.sac_base.specs.declared.base.Base.{Base}
use Rattle.sac_base.specs.declared.base.Base.TheVariants.{Int}
use Rattle.sac_base.specs.Arrays.{ArrayValue, IsFull, vector}
use Rattle.sac_base.specs.Outcomes.{Ends}
use Rattle.sac_base.specs.Parts.{select}
use Rattle.core_ir.specs.declared.tree.Var.{Var}
use Rattle.core_ir.specs.Meaning.{CallMeaning, Env, cells, cell_at, cell_form}
use Rattle.counted_code.specs.Terms.{CodePartsTerm, core_of_parts}
use Rattle.phase_laws.specs.Spending.{CallSpending, parts_take}

-- the second environment has another array for the variable, of the same base and shape, with the same element at the index
pub record SameButAt (v : Var) (index : List ℤ) (e f : Env) : Type 0 where
  pub others : (y : Var) → eqb v.0 y.0 ≡ false → f y ≡ e y
  pub element : select (f v) (vector Int index) ≡ select (e v) (vector Int index)
  pub base : (f v).base ≡ (e v).base
  pub shape : (f v).shape ≡ (e v).shape
  pub full : IsFull (f v)

-- the cell at each index of the frame, and how many buffers it takes, are the same whatever other elements the variable's array has
abbrev pub CellsReadOwn : (Env → List ℤ → Ends (Option ArrayValue)) → (Env → List ℤ → ℕ) → Var → List (List ℤ) → Env → Type 0
CellsReadOwn cell takes v indices e =
    (p : ℕ) (f : Env) → p < length indices → SameButAt v (get_or indices p []) e f →
    (cell f (get_or indices p []) ≡ cell e (get_or indices p [])) × (takes f (get_or indices p []) ≡ takes e (get_or indices p []))

-- of a parted loop of scalar cells of a base, with what calls mean and spend
abbrev pub PartsReadOwn : CallMeaning → ℕ → CallSpending → CodePartsTerm → Base → Var → List (List ℤ) → Env → Type 0
PartsReadOwn calls turns spent parts base v indices e =
    CellsReadOwn (λ f. cell_at (cell_form base []) (cells calls turns (core_of_parts parts) f)) (λ f. parts_take calls turns spent parts f) v indices e
