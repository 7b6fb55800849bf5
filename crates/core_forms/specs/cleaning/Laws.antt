-- The statements of the laws.
use Rattle.std.specs.Prelude.{All}
use Rattle.core_ir.specs.Terms.{FunTerm, CoreTerm}
use Rattle.core_ir.specs.WellFormed.{IsWellFormed}
use Rattle.core_facts.specs.Settled.{IsSettled}
use Rattle.core_facts.specs.calls.Arrays.{SameOutcomeOnArrays}
use Rattle.core_facts.specs.constants.Called.{called, params_facts}
use Rattle.core_forms.specs.cleaning.Checks.{simplified_core}

-- a well-formed core stays well formed
abbrev pub StaysWellFormed : (CoreTerm → CoreTerm) → Type 0
StaysWellFormed pass = (core : CoreTerm) → IsWellFormed core → IsWellFormed (pass core)

-- a well-formed core keeps its outcome on arrays
abbrev pub KeepsTheOutcome : (CoreTerm → CoreTerm) → Type 0
KeepsTheOutcome pass = (core : CoreTerm) → IsWellFormed core → SameOutcomeOnArrays core (pass core)

-- in each function, by what is known in it of its own results and parameters, each literal variable is bound by a constant
abbrev pub SimplifiedHasNoOtherLiteral : Type 0
SimplifiedHasNoOtherLiteral =
    (core : CoreTerm) → All (λ (f : FunTerm). IsSettled (called (simplified_core core)) f.body (params_facts f)) (simplified_core core).functions
