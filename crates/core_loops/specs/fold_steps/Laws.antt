-- The statements of the laws.
use Rattle.std.specs.Prelude.{◌≡◌, ℕ, List, Option, ℤ, true, All, FitsSigned}
use mir.Syntax.{w32}
use Rattle.sac_base.specs.declared.base.Base.{Base}
use Rattle.sac_base.specs.declared.grid.Grid1.{Grid1}
use Rattle.sac_base.specs.Grids.{has_vector}
use Rattle.core_ir.specs.Binders.{bound_in_parts}
use Rattle.core_ir.specs.Terms.{CoreTerm, FunTerm, PartsTerm, BlockTerm}
use Rattle.core_ir.specs.Meaning.{Env, CallMeaning, cells}
use Rattle.core_ir.specs.WellFormed.{Bases, PartsBases, Distinct, Covered, part_grids, IsWellFormed}
use Rattle.core_ir.specs.Edits.{Edited}
use Rattle.core_loops.specs.Steps.{fact_ways}
use Rattle.core_facts.specs.Facts.{Facts, AreSound, CallsFit}
use Rattle.core_facts.specs.Full.{FullInsideParts}
use Rattle.core_facts.specs.bases.Typed.{Typed, CallsTyped}
use Rattle.core_loops.specs.folds.Cells.{HasCells}
use Rattle.core_loops.specs.Pairs.{TotalParts}
use Rattle.core_facts.specs.calls.Arrays.{SameOutcomeOnArrays}
use Rattle.core_loops.specs.fold_steps.Step.{FoldStep, SameAt}

-- a parted loop of scalar cells whose parts are total, and whose frame is covered, has a cell at each index of its frame
abbrev pub ProducersHaveCells : Type 0
ProducersHaveCells =
    (core : CoreTerm) (calls : CallMeaning) (turns : ℕ) (called : ℕ → List (Option (List ℕ))) (frame : List Grid1) (parts : PartsTerm) (k : Facts)
    (g : Bases) (t : Base) (e : Env) →
    CallsTyped core calls → CallsFit called calls → TotalParts called k parts → PartsBases core g parts t → Distinct (bound_in_parts parts) →
    FullInsideParts calls turns parts → Typed g e → AreSound k e → ((v : List ℤ) → has_vector frame v ≡ true → All (FitsSigned w32) v) →
    Covered frame (part_grids parts) → (at : List ℤ → ℤ) × HasCells frame t (cells calls turns parts e) at

-- where one place inside a block is changed, and the old and the new mean the same in each environment that has the known shapes, literal values and
-- bases at that place, the whole means the same
abbrev pub PlacesMayChange : Type 0
PlacesMayChange =
    (core : CoreTerm) (calls : CallMeaning) (turns : ℕ) (called : ℕ → List (Option (List ℕ))) (k : Facts) (b d : BlockTerm) → CallsTyped core calls →
    CallsFit called calls → Edited Facts (fact_ways called) (SameAt core calls turns) k b d → SameAt core calls turns k b d

-- a fold step between well-formed cores keeps the outcome on arrays
abbrev pub FoldStepsKeepOutcomes : Type 0
FoldStepsKeepOutcomes =
    (above : FunTerm → ℕ) (a b : CoreTerm) → FoldStep above a b → IsWellFormed a → IsWellFormed b → SameOutcomeOnArrays a b
