-- What marks in the place of releases keep.
use Rattle.std.specs.Prelude.{◌≡◌}
use Rattle.counted_code.specs.Counts.{IsWellCounted}
use Rattle.counted_code.specs.Prompt.{IsPrompt}
use Rattle.counted_code.specs.Terms.{CodeProgram, core_of_code}
use Rattle.counted_laws.specs.mark_places.Places.{MarkedCode}

-- each reference is handed on or released once
abbrev pub MarkedIsCounted : Type 0
MarkedIsCounted =
    (a b : CodeProgram) → MarkedCode a b → IsWellCounted a → IsWellCounted b

-- and ends at the last use
abbrev pub MarkedIsPrompt : Type 0
MarkedIsPrompt =
    (a b : CodeProgram) → MarkedCode a b → IsPrompt a → IsPrompt b

-- without steps that keep and release and without marks it is the same core
abbrev pub MarkedIsTheCore : Type 0
MarkedIsTheCore =
    (a b : CodeProgram) → MarkedCode a b → core_of_code b ≡ core_of_code a
