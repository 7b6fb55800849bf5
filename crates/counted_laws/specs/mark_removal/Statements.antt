-- What code without its marks keeps, and what does the same without them.
use Rattle.std.specs.Prelude.{◌≡◌, ℕ, Bool, List}
use Rattle.sac_base.specs.WithLoops.{Range}
use Rattle.core_facts.specs.calls.Nests.{CallsAll, CallsAllGens, CallsAllParts}
use Rattle.counted_code.specs.Counts.{IsWellCounted, IsUnmarked}
use Rattle.counted_code.specs.Loops.{holder, part_holder}
use Rattle.counted_code.specs.Machine.{DoesCalls, Values, does, code_generators, code_cells}
use Rattle.counted_code.specs.Outcome.{call_does, call_does_at, deeper_does, inline_does}
use Rattle.counted_code.specs.Terms.{CodeTerm, CodeGensTerm, CodePartsTerm, CodeProgram, core_of, core_of_gens, core_of_parts, core_of_code}
use Rattle.counted_code.specs.Values.{Heap}
use Rattle.counted_laws.specs.mark_removal.Reached.{IsOne, ReachesNone}
use Rattle.counted_laws.specs.mark_removal.Removal.{without_marks}

-- ---- code without its marks

-- no loop is marked
abbrev pub NoneIsLeft : Type 0
NoneIsLeft =
    (code : CodeProgram) → IsUnmarked (without_marks code)

-- it has the code's core
abbrev pub TheCoreStays : Type 0
TheCoreStays =
    (code : CodeProgram) → core_of_code (without_marks code) ≡ core_of_code code

-- each reference is still handed on or released once
abbrev pub TheCountsStay : Type 0
TheCountsStay =
    (code : CodeProgram) → IsWellCounted code → IsWellCounted (without_marks code)

-- code that has no marks stays as it is
abbrev pub UnmarkedStays : Type 0
UnmarkedStays =
    (code : CodeProgram) → IsUnmarked code → without_marks code ≡ code

-- ---- calls that do the same

-- a block does the same with calls that do the same where it calls
abbrev pub BlocksFollowCalls : Type 0
BlocksFollowCalls =
    (calls others : DoesCalls) (turns : ℕ) (t : CodeTerm) → CallsAll (λ g. calls g ≡ others g) (core_of t) → does calls turns t ≡ does others turns t

-- so do generators
abbrev pub GeneratorsFollowCalls : Type 0
GeneratorsFollowCalls =
    (calls others : DoesCalls) (turns : ℕ) (gens : CodeGensTerm) → CallsAllGens (λ g. calls g ≡ others g) (core_of_gens gens) →
    code_generators calls turns gens ≡ code_generators others turns gens

-- and parts
abbrev pub PartsFollowCalls : Type 0
PartsFollowCalls =
    (calls others : DoesCalls) (turns : ℕ) (parts : CodePartsTerm) → CallsAllParts (λ g. calls g ≡ others g) (core_of_parts parts) →
    code_cells calls turns parts ≡ code_cells others turns parts

-- ---- what reaches no mark

-- what calls do with the levels that are left
abbrev pub calls_with : CodeProgram → (turns left nest : ℕ) → DoesCalls
calls_with code turns left nest = call_does code (deeper_does code turns left) (inline_does code turns (deeper_does code turns left) nest)

-- a call that reaches no mark does at each level the same without marks
abbrev pub CallsDoTheSame : Type 0
CallsDoTheSame =
    (code : CodeProgram) (reached : ℕ → Bool) → ReachesNone code reached → (turns left nest group : ℕ) → IsOne reached group →
    calls_with code turns left nest group ≡ calls_with (without_marks code) turns left nest group

-- with as many levels of inline calls as there are functions
abbrev pub CallsOfEachLevelDoTheSame : Type 0
CallsOfEachLevelDoTheSame =
    (code : CodeProgram) (reached : ℕ → Bool) → ReachesNone code reached → (turns left group : ℕ) → IsOne reached group →
    call_does_at code turns left group ≡ call_does_at (without_marks code) turns left group

-- a block that reaches no mark outside of itself
abbrev pub BlocksDoTheSame : Type 0
BlocksDoTheSame =
    (code : CodeProgram) (reached : ℕ → Bool) → ReachesNone code reached → (turns left nest : ℕ) (t : CodeTerm) → CallsAll (IsOne reached) (core_of t) →
    does (calls_with code turns left nest) turns t ≡ does (calls_with (without_marks code) turns left nest) turns t

-- the generators of a with-loop
abbrev pub GeneratorsDoTheSame : Type 0
GeneratorsDoTheSame =
    (code : CodeProgram) (reached : ℕ → Bool) → ReachesNone code reached → (turns left nest : ℕ) (gens : CodeGensTerm) →
    CallsAllGens (IsOne reached) (core_of_gens gens) →
    code_generators (calls_with code turns left nest) turns gens ≡ code_generators (calls_with (without_marks code) turns left nest) turns gens

-- and the parts of a parted loop
abbrev pub PartsDoTheSame : Type 0
PartsDoTheSame =
    (code : CodeProgram) (reached : ℕ → Bool) → ReachesNone code reached → (turns left nest : ℕ) (parts : CodePartsTerm) →
    CallsAllParts (IsOne reached) (core_of_parts parts) →
    code_cells (calls_with code turns left nest) turns parts ≡ code_cells (calls_with (without_marks code) turns left nest) turns parts

-- so the cell at each index of a with-loop
abbrev pub WithCellsDoTheSame : Type 0
WithCellsDoTheSame =
    (code : CodeProgram) (reached : ℕ → Bool) → ReachesNone code reached → (turns left nest : ℕ) (gens : CodeGensTerm) →
    CallsAllGens (IsOne reached) (core_of_gens gens) → (e : Values) (h : Heap) (ranges : List Range) →
    holder (code_generators (calls_with code turns left nest) turns gens e h) ranges
    ≡ holder (code_generators (calls_with (without_marks code) turns left nest) turns gens e h) ranges

-- and of a parted loop
abbrev pub PartedCellsDoTheSame : Type 0
PartedCellsDoTheSame =
    (code : CodeProgram) (reached : ℕ → Bool) → ReachesNone code reached → (turns left nest : ℕ) (parts : CodePartsTerm) →
    CallsAllParts (IsOne reached) (core_of_parts parts) → (e : Values) →
    part_holder (code_cells (calls_with code turns left nest) turns parts e)
    ≡ part_holder (code_cells (calls_with (without_marks code) turns left nest) turns parts e)
