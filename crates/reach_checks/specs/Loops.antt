-- Loops whose cells reach no mark.
use Rattle.std.specs.Prelude.{ℕ, Bool}
use Rattle.core_facts.specs.calls.Nests.{CallsAllGens, CallsAllParts}
use Rattle.counted_code.specs.Counts.{UnmarkedGens, UnmarkedParts}
use Rattle.counted_code.specs.Terms.{CodeGensTerm, CodePartsTerm, CodeProgram, core_of_gens, core_of_parts}
use Rattle.counted_laws.specs.mark_removal.Reached.{IsOne, ReachesNone}

abbrev pub ClearGens : CodeProgram → CodeGensTerm → Type 0
ClearGens code gens =
    (reached : ℕ → Bool) × ReachesNone code reached × UnmarkedGens gens × CallsAllGens (IsOne reached) (core_of_gens gens)

abbrev pub ClearParts : CodeProgram → CodePartsTerm → Type 0
ClearParts code parts =
    (reached : ℕ → Bool) × ReachesNone code reached × UnmarkedParts parts × CallsAllParts (IsOne reached) (core_of_parts parts)
