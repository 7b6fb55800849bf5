-- The statements of the laws.
use Rattle.core_facts.specs.calls.Arrays.{KeepsArrays}
use Rattle.core_ir.specs.Terms.{CoreTerm}
use Rattle.core_ir.specs.WellFormed.{IsWellFormed}

-- in a well-formed core each right side gives arrays with as many cells as their shapes say, where the variables and calls do
abbrev pub ValuesAreArrays : Type 0
ValuesAreArrays =
    (core : CoreTerm) → IsWellFormed core → KeepsArrays core
