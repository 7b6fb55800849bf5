-- What setting marks gives.
use Rattle.std.specs.Prelude.{◌≡◌}
use Rattle.counted_code.specs.Counts.{IsWellCounted, IsUnmarked}
use Rattle.counted_code.specs.Prompt.{IsPrompt}
use Rattle.counted_code.specs.Terms.{CodeProgram, core_of_code}
use Rattle.counted_laws.specs.mark_places.Places.{MarkedCode}
use Rattle.counted_marks.specs.Marks.{IsWellMarked, HasNoneLeft}
use Rattle.counted_marks.specs.Marking.{marking_code}

-- it is the code with marks in the place of releases
abbrev pub MarkingSetsMarks : Type 0
MarkingSetsMarks =
    (code : CodeProgram) → MarkedCode code (marking_code code)

-- each reference is handed on or released once
abbrev pub MarkingIsCounted : Type 0
MarkingIsCounted =
    (code : CodeProgram) → IsWellCounted code → IsWellCounted (marking_code code)

-- and ends at the last use
abbrev pub MarkingIsPrompt : Type 0
MarkingIsPrompt =
    (code : CodeProgram) → IsPrompt code → IsPrompt (marking_code code)

-- each mark is a candidate of its loop
abbrev pub MarkingIsWellMarked : Type 0
MarkingIsWellMarked =
    (code : CodeProgram) → IsUnmarked code → IsWellMarked (marking_code code)

-- no loop without a mark has a candidate
abbrev pub MarkingLeavesNone : Type 0
MarkingLeavesNone =
    (code : CodeProgram) → IsUnmarked code → HasNoneLeft (marking_code code)

-- without marks and steps that keep and release it is the same core
abbrev pub MarkingKeepsTheCore : Type 0
MarkingKeepsTheCore =
    (code : CodeProgram) → core_of_code (marking_code code) ≡ core_of_code code

-- code without marks is well marked
abbrev pub UnmarkedIsWellMarked : Type 0
UnmarkedIsWellMarked =
    (code : CodeProgram) → IsUnmarked code → IsWellMarked code
