-- The statements of the laws.
use Rattle.std.specs.Prelude.{◌≡◌, ℕ, suc, Bool}
use Rattle.core_ir.specs.Outcome.{SameOutcome}
use Rattle.core_ir.specs.Terms.{CoreTerm}
use Rattle.core_ir.specs.WellFormed.{IsWellFormed}
use Rattle.core_forms.specs.inlined_bodies.Functions.{FunctionInlined, ComeTo}

-- a core in one function of which calls are inlined has the same outcome, and is well formed
abbrev pub FunctionsMayBeInlined : Type 0
FunctionsMayBeInlined = (a b : CoreTerm) (place : ℕ) → FunctionInlined a b place → IsWellFormed a → SameOutcome a b × IsWellFormed b

-- a pass over the functions of one kind goes on by a function of this kind in which calls are inlined
abbrev pub PassesGoOn : Type 0
PassesGoOn =
    (a b : CoreTerm) (place : ℕ) (inlines : Bool) (step : FunctionInlined a b place) → IsWellFormed a → step.function.is_inline ≡ inlines →
    ComeTo a inlines place → ComeTo b inlines (suc place)
