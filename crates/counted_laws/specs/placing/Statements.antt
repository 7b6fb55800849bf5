-- The law of the steps that references need.
use Rattle.std.specs.Prelude.{◌≡◌}
use Rattle.core_ir.specs.Terms.{CoreTerm}
use Rattle.core_ir.specs.WellFormed.{IsWellFormed}
use Rattle.counted_code.specs.Counts.{IsWellCounted, IsUnmarked}
use Rattle.counted_code.specs.Prompt.{IsPrompt}
use Rattle.counted_code.specs.Terms.{core_of_code}
use Rattle.counted_laws.specs.placing.Placing.{placing_core}

-- each reference is handed on or released once
abbrev pub PlacedIsCounted : Type 0
PlacedIsCounted =
    (core : CoreTerm) → IsWellFormed core → IsWellCounted (placing_core core)

-- and ends at the last use
abbrev pub PlacedIsPrompt : Type 0
PlacedIsPrompt =
    (core : CoreTerm) → IsWellFormed core → IsPrompt (placing_core core)

-- no loop is marked
abbrev pub PlacedIsUnmarked : Type 0
PlacedIsUnmarked =
    (core : CoreTerm) → IsUnmarked (placing_core core)

-- without the steps that keep and release it is the core
abbrev pub PlacedIsTheCore : Type 0
PlacedIsTheCore =
    (core : CoreTerm) → core_of_code (placing_core core) ≡ core
