-- What main reaches: functions, and groups that are called.
use Rattle.std.specs.Prelude.{◌≡◌, ℕ, Bool, true, List, Some, slice_get}
use Rattle.core_ir.specs.Outcome.{group_at}
use Rattle.core_ir.specs.Terms.{FunTerm, CoreTerm}
use Rattle.core_facts.specs.calls.Nests.{CallsAll, StandsIn}

-- the place is marked
abbrev pub IsMarked : List Bool → ℕ → Type 0
IsMarked marks place = slice_get marks place ≡ Some true

-- Main is marked, each instance of a marked group, and each group that a marked function calls.
pub record IsClosed (core : CoreTerm) (groups functions : List Bool) : Type 0 where
  pub main : IsMarked functions core.main
  pub instances : (group place : ℕ) → IsMarked groups group → StandsIn (group_at core group) place → IsMarked functions place
  pub calls : (place : ℕ) (f : FunTerm) → IsMarked functions place → slice_get core.functions place ≡ Some f → CallsAll (IsMarked groups) f.body
