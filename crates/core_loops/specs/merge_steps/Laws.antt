-- The statements of the laws.
use Rattle.std.specs.Prelude.{ℕ}
use Rattle.core_ir.specs.Terms.{CoreTerm, FunTerm}
use Rattle.core_ir.specs.WellFormed.{IsWellFormed}
use Rattle.core_facts.specs.calls.Arrays.{SameOutcomeOnArrays}
use Rattle.core_loops.specs.merge_steps.Step.{MergeStep}

-- a merge step between well-formed cores keeps the outcome on arrays
abbrev pub MergeStepsKeepOutcomes : Type 0
MergeStepsKeepOutcomes =
    (above : FunTerm → ℕ) (a b : CoreTerm) → MergeStep above a b → IsWellFormed a → IsWellFormed b → SameOutcomeOnArrays a b
