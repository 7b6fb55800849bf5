-- The statements of the laws.
use Rattle.std.specs.Prelude.{All}
use Rattle.core_ir.specs.Terms.{FunTerm, CoreTerm}
use Rattle.core_ir.specs.WellFormed.{IsWellFormed}
use Rattle.core_facts.specs.Settled.{IsSettled}
use Rattle.core_facts.specs.calls.Arrays.{SameOutcomeOnArrays}
use Rattle.core_facts.specs.constants.Called.{called, params_facts, settled_core}

-- the core in which each literal variable is bound by a constant is well formed where the core is
abbrev pub SettledIsWellFormed : Type 0
SettledIsWellFormed =
    (core : CoreTerm) → IsWellFormed core → IsWellFormed (settled_core core)

-- it has the same outcome on arrays
abbrev pub SettledKeepsTheOutcome : Type 0
SettledKeepsTheOutcome =
    (core : CoreTerm) → IsWellFormed core → SameOutcomeOnArrays core (settled_core core)

-- in each of its functions, by what is known in it of its own results and parameters, each literal variable is bound by a constant
abbrev pub SettledHasNoOtherLiteral : Type 0
SettledHasNoOtherLiteral =
    (core : CoreTerm) → All (λ (f : FunTerm). IsSettled (called (settled_core core)) f.body (params_facts f)) (settled_core core).functions
