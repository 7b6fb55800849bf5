-- The statements of the laws.
use Rattle.core_ir.specs.Terms.{CoreTerm}
use Rattle.core_facts.specs.calls.Nests.{CallsBelow}
use Rattle.core_facts.specs.calls.Arrays.{KeepsArrays, SameOutcomeOnArrays}
use Rattle.core_facts.specs.constants.Called.{settled_core}

-- the core in which each literal variable is bound by a constant has the same outcome on arrays
abbrev pub ConstantsForLiterals : Type 0
ConstantsForLiterals =
    (core : CoreTerm) → CallsBelow core → CallsBelow (settled_core core) → KeepsArrays core → KeepsArrays (settled_core core) →
    SameOutcomeOnArrays core (settled_core core)
