-- Functions with calls inlined, and the calls that are left in them.
use Rattle.std.specs.Prelude.{◌≡◌, ℕ, ◌+◌, ◌-◌, ◌^◌, ◌<◌, ◌≤◌, ◌⊎◌, Bool, true, false, List, length, Some, slice_get}
use Rattle.core_ir.specs.declared.tree.Var.{Var}
use Rattle.core_ir.specs.Counts.{bindings}
use Rattle.core_ir.specs.Terms.{BlockTerm, FunTerm, CoreTerm}
use Rattle.core_facts.specs.calls.Nests.{CallsAll}
use Rattle.core_facts.specs.calls.Replaced.{replaced_at}
use Rattle.core_subst.specs.Names.{above_function}
use Rattle.core_forms.specs.declared.inlined_bodies.growth.Growth.{Growth}
use Rattle.core_forms.specs.inlined_bodies.Inlining.{IsInstance, MOST_BINDINGS, weight, greatest, BlockInlined}

-- no condition
abbrev pub Anywhere : ℕ → FunTerm → List Var → List Var → BlockTerm → Type 0
Anywhere by f ts xs rest = Unit {0}

-- before anything is put into a function
abbrev pub unchanged : FunTerm → Growth
unchanged f = record { count = 0; above = above_function f }

-- the function at a place, with calls inlined
pub record FunctionInlined (a b : CoreTerm) (place : ℕ) : Type 0 where
  pub function : FunTerm
  pub body : BlockTerm
  pub last : Growth
  pub found : slice_get a.functions place ≡ Some function
  pub inlined : BlockInlined a Anywhere (unchanged function) function.body body last
  pub changed : b ≡ record a { functions = replaced_at a.functions place (record function { body = body }) }

-- with the other's body the one would have too many bindings, or too great variables
abbrev pub AreTooLarge : FunTerm → FunTerm → Type 0
AreTooLarge f h = (MOST_BINDINGS < bindings f.body + weight h) ⊎ (2 ^ 32 - 1 ≤ greatest f + greatest h)

-- each call in the function of a group whose only instance is inline is one of a function that is too large to be inlined
abbrev pub LeavesLarge : CoreTerm → FunTerm → Type 0
LeavesLarge core f = CallsAll (λ group. (place : ℕ) (h : FunTerm) → IsInstance core group place h → AreTooLarge f h) f.body

-- the same in every function
abbrev pub OnlyLargeLeft : CoreTerm → Type 0
OnlyLargeLeft core = (place : ℕ) (f : FunTerm) → slice_get core.functions place ≡ Some f → LeavesLarge core f

-- the same in those functions below a place that are inline, or in those that are not
abbrev pub DoneBelow : CoreTerm → Bool → ℕ → Type 0
DoneBelow core inlines n = (place : ℕ) (f : FunTerm) → place < n → slice_get core.functions place ≡ Some f → f.is_inline ≡ inlines → LeavesLarge core f

-- A pass over the functions of one kind has come to a place: those below it are done. The pass over the functions that are not inline comes after
-- the other.
abbrev pub ComeTo : CoreTerm → Bool → ℕ → Type 0
ComeTo core inlines n = DoneBelow core inlines n × (inlines ≡ false → DoneBelow core true (length core.functions))
