-- Groups from which no mark is reached.
use Rattle.std.specs.Prelude.{◌≡◌, ℕ, Bool, true, Some, slice_get}
use Rattle.core_ir.specs.Outcome.{group_at}
use Rattle.core_facts.specs.calls.Nests.{CallsAll, StandsIn}
use Rattle.counted_code.specs.Counts.{Unmarked}
use Rattle.counted_code.specs.Terms.{CodeFunTerm, CodeProgram, core_of, core_of_code}

-- the group is one of these
abbrev pub IsOne : (ℕ → Bool) → ℕ → Type 0
IsOne reached group = reached group ≡ true

-- A function that a call of one of these groups may take has no mark, and calls these groups alone.
pub record ReachesNone (code : CodeProgram) (reached : ℕ → Bool) : Type 0 where
  pub unmarked : (group place : ℕ) (f : CodeFunTerm) → IsOne reached group → StandsIn (group_at (core_of_code code) group) place →
      slice_get code.functions place ≡ Some f → Unmarked f.body
  pub calls : (group place : ℕ) (f : CodeFunTerm) → IsOne reached group → StandsIn (group_at (core_of_code code) group) place →
      slice_get code.functions place ≡ Some f → CallsAll (IsOne reached) (core_of f.body)
