-- What the tests of kernels tell.
use Rattle.std.specs.Prelude.{◌≡◌, ℕ, true, false, eqb, List, length, ℤ, All, Option, IsTrue}
use Rattle.sac_base.specs.declared.base.Base.{Base}
use Rattle.sac_base.specs.declared.base.Base.TheVariants.{Int}
use Rattle.sac_base.specs.declared.form.Form.{Form}
use Rattle.sac_base.specs.Arrays.{ArrayValue, vector}
use Rattle.sac_base.specs.Parts.{select}
use Rattle.core_ir.specs.declared.tree.Var.{Var}
use Rattle.core_ir.specs.Meaning.{Env}
use Rattle.counted_code.specs.declared.tree.CodePart.{CodePart}
use Rattle.kernel_tree.specs.Terms.{KernelTerm, buffer, gives}
use Rattle.kernel_code.specs.Calls.{Calls}
use Rattle.kernel_code.specs.Relations.{Known}
use Rattle.kernel_rows.specs.declared.kernels.CellKernel.{CellKernel}
use Rattle.kernel_code.specs.Relations.{IsScope}
use Rattle.kernel_rows.specs.Kernels.{HasIndex}
use Rattle.counted_code.specs.Pieces.{parts_term}
use Rattle.own_kernels.specs.Kernels.{ArePartKernels, parts_own}
use Rattle.phase_loop_laws.specs.over_phases.Own.{PartsReadOwn}
use Rattle.own_kernels.specs.Steps.{is_own}

-- the buffers differ in one alone, which has the same element at the index
pub record SameAt (at : ℕ) (index : List ℤ) (bs cs : List ArrayValue) : Type 0 where
  pub others : (b : ℕ) → eqb b at ≡ false → buffer cs b ≡ buffer bs b
  pub element : select (buffer cs at) (vector Int index) ≡ select (buffer bs at) (vector Int index)

-- a kernel that reads of a buffer its own element alone gives the same, whatever other elements the buffer has
abbrev pub OwnKernelsGiveTheSame : Type 0
OwnKernelsGiveTheSame =
    (turns rank at : ℕ) (k : KernelTerm) (index r : List ℤ) (bs cs : List ArrayValue) → is_own rank at k ≡ true → length index ≡ rank
    → HasIndex r index → SameAt at index bs cs → gives turns cs k r ≡ gives turns bs k r

-- parts with kernels that read of a variable's array their own element alone: so do their cells
abbrev pub OwnKernelsReadOwn : Type 0
OwnKernelsReadOwn =
    (c : Calls) (turns : ℕ) (parts : List CodePart) (form : Form) (known : Known) (kernels : List (Option CellKernel))
    → ArePartKernels c known form parts kernels → (v : Var) (rank : ℕ) → IsTrue (parts_own kernels (length parts) known v rank)
    → (bs : List ArrayValue) (e : Env) → IsScope bs e known → (indices : List (List ℤ)) → All (λ index. length index ≡ rank) indices
    → (base : Base) → PartsReadOwn (c.means turns) turns (c.spends turns) (parts_term parts) base v indices e
