-- The kernels of parts that read of one variable's array their own element alone.
use Rattle.std.specs.Prelude.{ℕ, Bool, false, ◌&&◌, ◌||◌, not, nat_eq, nat_le, List, [], length, map, Option, Some, None}
use Rattle.std.specs.List.{list_all}
use Rattle.sac_base.specs.declared.form.Form.{Form}
use Rattle.sac_base.specs.Arrays.{ArrayValue}
use Rattle.core_ir.specs.declared.tree.Var.{Var}
use Rattle.core_ir.specs.Meaning.{Env}
use Rattle.counted_code.specs.declared.tree.CodePart.{CodePart}
use Rattle.kernel_tree.specs.declared.tree.Held.{Held}
use Rattle.kernel_tree.specs.declared.tree.Held.TheVariants.{Whole}
use Rattle.kernel_tree.specs.View.{kernel_term}
use Rattle.kernel_code.specs.Calls.{Calls}
use Rattle.kernel_code.specs.Relations.{Known, found}
use Rattle.kernel_rows.specs.declared.kernels.CellKernel.{CellKernel}
use Rattle.kernel_code.specs.Relations.{IsScope}
use Rattle.kernel_rows.specs.Kernels.{AreCellKernels, Body}
use Rattle.own_kernels.specs.Steps.{is_own}

-- a kernel is there, is for indices of so many components, and reads its own element alone
abbrev pub is_own_kernel : (rank buffer : ℕ) → Option CellKernel → Bool
is_own_kernel rank buffer None = false
is_own_kernel rank buffer (Some k) = nat_eq k.rank rank && is_own k.rank buffer (kernel_term k.block)

abbrev pub kernels_own : List (Option CellKernel) → (rank buffer : ℕ) → Bool
kernels_own kernels rank buffer = list_all (is_own_kernel rank buffer) kernels

-- an array is held in the buffer
abbrev pub is_in : ℕ → Held → Bool
is_in buffer (Whole base rank b) = nat_eq b buffer
is_in buffer h = false

-- the entry is the variable's, or holds no array in the buffer
abbrev pub is_apart : Var → ℕ → Var × Held → Bool
is_apart v buffer entry = not (is_in buffer entry.1) || nat_eq entry.0.0 v.0

-- no other variable has its array in the buffer
abbrev pub holds_alone : Known → Var → ℕ → Bool
holds_alone known v buffer = list_all (is_apart v buffer) known

-- a kernel is there, and is for indices of so many components
abbrev pub is_kernel_for : (rank : ℕ) → Option CellKernel → Bool
is_kernel_for rank None = false
is_kernel_for rank (Some k) = nat_eq k.rank rank

-- the variable alone has the buffer in which its array is held, of which the kernels read their own elements; or they cannot read the array, since it
-- is not held
abbrev pub own_in : List (Option CellKernel) → Known → Var → ℕ → Option Held → Bool
own_in kernels known v rank (Some (Whole base r buffer)) = holds_alone known v buffer && kernels_own kernels rank buffer
own_in kernels known v rank None = list_all (is_kernel_for rank) kernels
own_in kernels known v rank h = false

-- each of so many parts has a kernel for indices of so many components that reads of the variable's array its own element alone
abbrev pub parts_own : List (Option CellKernel) → (count : ℕ) → Known → Var → (rank : ℕ) → Bool
parts_own kernels count known v rank = (nat_eq (length kernels) count && nat_le rank 8) && own_in kernels known v rank (found v known)

-- what computes the cells of a part
abbrev pub part_body : CodePart → Body
part_body p = record { block = p.body; index = p.index; names = [] }

-- the kernels are those of the parts where calls mean this, whatever arrays the known variables have
abbrev pub ArePartKernels : Calls → Known → Form → List CodePart → List (Option CellKernel) → Type 0
ArePartKernels c known form parts kernels = (bs : List ArrayValue) (e : Env) → IsScope bs e known → AreCellKernels c bs e form (map part_body parts) kernels
