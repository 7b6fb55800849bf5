-- Arrays as values.
use Rattle.std.specs.Prelude.{ℕ, ◌*◌, ◌≤◌, ◌≡◌, ◌⊎◌, ◌&&◌, List, [], ◌∷◌, ℤ, pos, length, slice_index_or, All, FitsSigned, Bool, true, false, not, bytes_eq}
use Rattle.std.specs.Ordering.{int_eq}
use Rattle.sac_base.specs.declared.base.Base.{Base}
use Rattle.sac_base.specs.declared.base.Base.TheVariants.{Int, Bool as Truth}
use Rattle.sac_base.specs.declared.form.Form.{Form}
use Rattle.sac_base.specs.Shapes.{IsShape}
use mir.Syntax.{w32}

-- an array: what its elements are, its extents, and its elements in row-major order; true is 1 and false is 0
pub record ArrayValue : Type 0 where
  pub base : Base
  pub shape : List ℕ
  pub cells : List ℤ

-- how many elements a shape has
abbrev pub size : List ℕ → ℕ
size [] = 1
size (n ∷ ns) = n * size ns

-- the most elements that an array may have
abbrev pub MOST : ℕ
MOST = 16777216

-- the whole numbers that an element may be
abbrev pub IsCell : Base → ℤ → Type 0
IsCell Int z = FitsSigned w32 z
IsCell Truth z = (z ≡ pos 0) ⊎ (z ≡ pos 1)

-- there are as many elements as the shape says
abbrev pub IsFull : ArrayValue → Type 0
IsFull a = length a.cells ≡ size a.shape

-- what each value of the code's type keeps
pub record IsArray (a : ArrayValue) : Type 0 where
  pub shape : IsShape a.shape
  pub most : size a.shape ≤ MOST
  pub full : IsFull a

-- each element is one of the array's base, so that a truth value is 0 or 1: what is asked of arguments and holds of arrays that were read
abbrev pub IsWellTyped : ArrayValue → Type 0
IsWellTyped a = All (IsCell a.base) a.cells

-- what a type sees of an array
abbrev pub form_of : ArrayValue → Form
form_of a = record { base = a.base; shape = a.shape }

-- an array of rank 0, and a vector
abbrev pub scalar : Base → ℤ → ArrayValue
scalar base z = record { base = base; shape = []; cells = z ∷ [] }

abbrev pub vector : Base → List ℤ → ArrayValue
vector base zs = record { base = base; shape = length zs ∷ []; cells = zs }

-- the first element, and 0 where there is none
abbrev pub first_cell : List ℤ → ℤ
first_cell zs = slice_index_or zs 0 (pos 0)

abbrev pub same_base : Base → Base → Bool
same_base Int Int = true
same_base Truth Truth = true
same_base Int Truth = false
same_base Truth Int = false

abbrev pub same_shape : List ℕ → List ℕ → Bool
same_shape = bytes_eq

-- the same base and shape
abbrev pub same_form : ArrayValue → ArrayValue → Bool
same_form a b = same_base a.base b.base && same_shape a.shape b.shape

-- 0 is false, and any other number is true
abbrev pub is_true : ℤ → Bool
is_true z = not (int_eq z (pos 0))
