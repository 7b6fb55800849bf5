-- The laws of marked loops.
use Rattle.std.specs.Prelude.{◌≡◌, ℕ, true, List, length, Option, ℤ, All, FitsSigned}
use mir.Syntax.{w32}
use Rattle.sac_base.specs.declared.faults.Caps.{Caps}
use Rattle.sac_base.specs.Arrays.{ArrayValue}
use Rattle.core_ir.specs.declared.tree.Var.{Var}
use Rattle.core_ir.specs.Meaning.{Env, CallMeaning, run}
use Rattle.core_ir.specs.Outcome.{outcome}
use Rattle.core_facts.specs.Facts.{Facts, AreSound, CallsFit}
use Rattle.core_facts.specs.Full.{FullInside}
use Rattle.core_facts.specs.calls.Arrays.{AllFull}
use Rattle.core_loops.specs.Indices.{IndexFacts}
use Rattle.core_loops.specs.index_facts.Says.{SaysAll}
use Rattle.counted_code.specs.Counts.{IsWellCounted, IsUnmarked}
use Rattle.counted_code.specs.Outcome.{whole_run, outcome_of, cost_of}
use Rattle.counted_code.specs.Terms.{CodeTerm, CodeProgram, core_of, core_of_code}
use Rattle.counted_laws.specs.Simulation.{LeavesNothing, GivesAllBack}
use Rattle.counted_marks.specs.Marks.{IsWellMarked, own_only}
use Rattle.counted_marks.specs.Marking.{marking_code}
use Rattle.phase_loop_laws.specs.mark_laws.Alike.{AlikeAt}

-- code that uses an array in selections at the own index alone means the same whatever other elements the array has
abbrev pub OwnElementsAreEnough : Type 0
OwnElementsAreEnough =
    (calls : CallMeaning) (turns : ℕ) (called : ℕ → List (Option (List ℕ))) → CallsFit called calls → (t : CodeTerm) (v : Var) (own : List ℤ)
    (k : Facts) (m : IndexFacts) (e f : Env) → All (FitsSigned w32) own → own_only called v (length own) t k m ≡ true →
    FullInside calls turns (core_of t) → AreSound k e → SaysAll own m e → AlikeAt v own e f → run calls turns (core_of t) f ≡ run calls turns (core_of t) e

-- on arguments that are arrays, with as many elements as their shapes say, marked code and its core have the same outcome
abbrev pub SameOutcome : Type 0
SameOutcome =
    (code : CodeProgram) → IsWellCounted code → IsWellMarked code → (args : List ArrayValue) → AllFull args → (caps : Caps) →
    outcome_of (whole_run code args caps) ≡ outcome (core_of_code code) args caps

-- at the end of a run no buffer is live
abbrev pub RunsLeaveNothing : Type 0
RunsLeaveNothing =
    (code : CodeProgram) → IsWellCounted code → IsWellMarked code → (args : List ArrayValue) → AllFull args → (caps : Caps) →
    LeavesNothing (whole_run code args caps)

-- a run that ends without a fault has given back each buffer that it took
abbrev pub RunsGiveAllBack : Type 0
RunsGiveAllBack =
    (code : CodeProgram) → IsWellCounted code → IsWellMarked code → (args : List ArrayValue) → AllFull args → (caps : Caps) →
    GivesAllBack (whole_run code args caps)

-- so the two numbers of its cost are equal
abbrev pub CostsAreEven : Type 0
CostsAreEven =
    (code : CodeProgram) → IsWellCounted code → IsWellMarked code → (args : List ArrayValue) → AllFull args → (caps : Caps) →
    (cost_of (whole_run code args caps)).given ≡ (cost_of (whole_run code args caps)).taken

-- code whose loops are marked with their candidates has the outcome that it had
abbrev pub MarkingKeepsTheOutcome : Type 0
MarkingKeepsTheOutcome =
    (code : CodeProgram) → IsWellCounted code → IsUnmarked code → (args : List ArrayValue) → AllFull args → (caps : Caps) →
    outcome_of (whole_run (marking_code code) args caps) ≡ outcome_of (whole_run code args caps)
