-- Loops over the array of a marked variable whose cells may all be computed before one of them is written.
use Rattle.std.specs.Prelude.{◌≡◌, ◌≢◌, ℕ, [], List, ℤ, length, All, None, Ok}
use Rattle.buffer_heap.specs.Heaps.{Held, HeapValue, IsIn, IsLive, len_of}
use Rattle.core_ir.specs.declared.tree.Var.{Var}
use Rattle.core_ir.specs.Meaning.{cells, cell_at, cell_form}
use Rattle.counted_code.specs.declared.tree.CodePart.{CodePart}
use Rattle.counted_code.specs.Machine.{Values}
use Rattle.counted_code.specs.Terms.{core_of_parts}
use Rattle.counted_code.specs.Values.{Value, Ref}
use Rattle.phase_kernels.specs.over_checks.Holders.{HoldsAlone}
use Rattle.phase_loop_laws.specs.over_phases.Own.{PartsReadOwn}
use Rattle.phase_loop_laws.specs.over_phases.Statements.{IsElement}
use Rattle.counted_code.specs.Pieces.{parts_term}
use Rattle.phase_loop_cells.specs.Opened.{lent_env, meaning_in, spending_in}
use Rattle.run_loops.specs.declared.cell_loop.CellSource.{CellSource}
use Rattle.run_loops.specs.declared.cell_loop.CellSource.TheVariants.{Generators, Parts}
use Rattle.run_loops.specs.declared.state.Context.{Context}
use Rattle.sac_base.specs.declared.base.Base.{Base}
use Rattle.sac_base.specs.declared.form.Form.{Form}
use Rattle.sac_base.specs.Arrays.{size}

-- the buffer of this number is in, with so many cells
abbrev pub IsFilled : ℕ → ℕ → Held → Type 0
IsFilled b n x = IsIn x × (x.born ≡ b) × (len_of x.content ≡ n)

-- at indices of so many components the cells read of the variable's array the element at their own index alone, and a cell that is there is one
-- element or a fault
pub record ReadOwn (context : Context) (h : HeapValue) (e : Values) (parts : List CodePart) (form : Form) (x : Var) (rank : ℕ) : Type 0 where
  pub own : (indices : List (List ℤ)) → All (λ index. length index ≡ rank) indices
      → PartsReadOwn (meaning_in context) context.turns (spending_in context) (parts_term parts) form.base x indices (lent_env h e)
  pub elements : (index : List ℤ) → length index ≡ rank
      → cell_at (cell_form form.base []) (cells (meaning_in context) context.turns (core_of_parts (parts_term parts)) (lent_env h e)) index ≢ Ok None
      → IsElement (cell_at (cell_form form.base []) (cells (meaning_in context) context.turns (core_of_parts (parts_term parts)) (lent_env h e)) index)

-- The cells are scalars. The value is the reference of one of these variables alone to a buffer that an array of this shape fills, and the cells read of
-- that array the element at their own index alone.
pub record MayBeOver (context : Context) (h : HeapValue) (e : Values) (parts : List CodePart) (form : Form) (shape : List ℕ) (live : List Var)
    (w : Value) : Type 0 where
  pub variable : Var
  pub buffer : ℕ
  pub base : Base
  pub is : w ≡ Ref buffer base shape
  pub value : e variable ≡ w
  pub alone : HoldsAlone buffer variable live e
  pub scalars : form.shape ≡ []
  pub place : ℕ
  pub filled : IsLive h place (IsFilled buffer (size shape))
  pub own : ReadOwn context h e parts form variable (length shape)

-- the same of the parts of a source
abbrev pub SourceMayBeOver : Context → HeapValue → Values → CellSource → Form → List ℕ → List Var → Value → Type 0
SourceMayBeOver context h e (Generators gens) form shape live w = ⊥
SourceMayBeOver context h e (Parts parts) form shape live w = MayBeOver context h e parts.now form shape live w
