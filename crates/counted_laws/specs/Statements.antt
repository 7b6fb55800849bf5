-- The laws of counted code.
use Rattle.std.specs.Prelude.{◌≡◌, List}
use Rattle.sac_base.specs.Arrays.{ArrayValue}
use Rattle.sac_base.specs.declared.faults.Caps.{Caps}
use Rattle.core_ir.specs.Outcome.{outcome}
use Rattle.counted_code.specs.Counts.{IsWellCounted, IsUnmarked}
use Rattle.counted_code.specs.Outcome.{whole_run, outcome_of, cost_of}
use Rattle.counted_code.specs.Terms.{CodeProgram, core_of_code}
use Rattle.counted_laws.specs.Simulation.{LeavesNothing, GivesAllBack}

-- code and core have the same outcome
abbrev pub SameOutcome : Type 0
SameOutcome =
    (code : CodeProgram) → IsWellCounted code → IsUnmarked code → (args : List ArrayValue) (caps : Caps) →
    outcome_of (whole_run code args caps) ≡ outcome (core_of_code code) args caps

-- at the end of a run no buffer is live
abbrev pub RunsLeaveNothing : Type 0
RunsLeaveNothing =
    (code : CodeProgram) → IsWellCounted code → IsUnmarked code → (args : List ArrayValue) (caps : Caps) →
    LeavesNothing (whole_run code args caps)

-- a run that ends without a fault has given back each buffer that it took
abbrev pub RunsGiveAllBack : Type 0
RunsGiveAllBack =
    (code : CodeProgram) → IsWellCounted code → IsUnmarked code → (args : List ArrayValue) (caps : Caps) →
    GivesAllBack (whole_run code args caps)

-- so the two numbers of its cost are equal
abbrev pub CostsAreEven : Type 0
CostsAreEven =
    (code : CodeProgram) → IsWellCounted code → IsUnmarked code → (args : List ArrayValue) (caps : Caps) →
    (cost_of (whole_run code args caps)).given ≡ (cost_of (whole_run code args caps)).taken
