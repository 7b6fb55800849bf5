-- How large functions are.
use Rattle.std.specs.Prelude.{◌≡◌, ℕ, ◌-◌, ◌^◌, min, List, Some, slice_get}
use Rattle.core_ir.specs.Terms.{FunTerm, CoreTerm}
use Rattle.core_subst.specs.Names.{above_function}
use Rattle.core_forms.specs.inlined_bodies.Inlining.{weight}
use Rattle.inline_calls.specs.declared.sizes.Size.{Size}

-- as far as the numbers can be told
abbrev pub IsSize : FunTerm → Size → Type 0
IsSize f s = (s.weight ≡ min (weight f) (2 ^ 64 - 1)) × (s.above ≡ min (above_function f) (2 ^ 32))

-- those of the functions at the same places
abbrev pub AreSizes : CoreTerm → List Size → Type 0
AreSizes core sizes = (place : ℕ) (f : FunTerm) (s : Size) → slice_get core.functions place ≡ Some f → slice_get sizes place ≡ Some s → IsSize f s
