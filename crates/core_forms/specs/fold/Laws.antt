-- The statements of the laws.
use Rattle.std.specs.Prelude.{◌≡◌, ℕ, ◌+◌, ◌<◌, ◌≤◌, List, ◌++◌, length, All, Option}
use Rattle.core_ir.specs.declared.tree.Var.{Var}
use Rattle.core_ir.specs.Binders.{bound_in}
use Rattle.core_ir.specs.Edits.{Edited}
use Rattle.core_ir.specs.Terms.{BlockTerm, CoreTerm}
use Rattle.core_ir.specs.WellFormed.{Distinct, IsWellFormed}
use Rattle.core_facts.specs.calls.Arrays.{SameOutcomeOnArrays}
use Rattle.core_facts.specs.Facts.{Facts}
use Rattle.core_loops.specs.Loops.{weight, parted_in}
use Rattle.core_loops.specs.Steps.{fact_ways}
use Rattle.core_subst.specs.Names.{above_function}
use Rattle.core_loops.specs.fold_steps.Step.{FoldStep}
use Rattle.core_forms.specs.norm.Copied.{IsPlaced}
use Rattle.core_forms.specs.norm.Walks.{core_weight}
use Rattle.core_forms.specs.fold.Fresh.{FreshFold}
use Rattle.core_forms.specs.fold.Walks.{BlockFolds, Entry, FoldOf, FoldSteps, FunctionFolds, Pair, entries_at, parted_count}

-- where a pair of a block is folded, the block has one parted loop less and its weight stays
abbrev pub PartedLoopsFall : Type 0
PartedLoopsFall =
    (calls : ℕ → List (Option (List ℕ))) (low high : ℕ) (k : Facts) (b c : BlockTerm) → Edited Facts (fact_ways calls) (FreshFold calls low high) k b c →
    (parted_in c + 1 ≡ parted_in b) × (weight c ≡ weight b)

-- where a pair of a block is folded, the block still binds each variable once
abbrev pub BindersStayDistinct : Type 0
BindersStayDistinct =
    (calls : ℕ → List (Option (List ℕ))) (low high : ℕ) (k : Facts) (b c : BlockTerm) → Edited Facts (fact_ways calls) (FreshFold calls low high) k b c →
    Distinct (bound_in b) → All (λ (x : Var). x.0 < low) (bound_in b) → Distinct (bound_in c) × All (λ (x : Var). x.0 < high) (bound_in c)

-- a block at its place is so after its pairs were folded
abbrev pub BlocksStayPlaced : Type 0
BlocksStayPlaced =
    (calls : ℕ → List (Option (List ℕ))) (k : Facts) (pairs : List Pair) (low high : ℕ) (b c : BlockTerm) → BlockFolds calls k pairs low high b c →
    (scope : List Var) → IsPlaced low scope b → IsPlaced high scope c

-- A core in one function of which pairs were folded, one after another and with new variables, has the same outcome on arrays, is well formed and no
-- heavier, has as many parted loops less as there were pairs, and came by a fold step for each pair.
abbrev pub FoldsKeep : Type 0
FoldsKeep =
    (a b : CoreTerm) (pairs : List Pair) → (walk : FunctionFolds a b pairs) → IsWellFormed a →
    SameOutcomeOnArrays a b × IsWellFormed b × (core_weight b ≤ core_weight a) × (parted_count b + length pairs ≡ parted_count a)
    × FoldSteps (entries_at (walk.place) pairs) a b

-- its function then has all variables below the number at which the walk ended
abbrev pub NumbersStayBelow : Type 0
NumbersStayBelow =
    (a b : CoreTerm) (pairs : List Pair) → (walk : FunctionFolds a b pairs) → IsWellFormed a →
    above_function (record (walk.function) { body = walk.body }) ≤ walk.high

-- steps after steps are steps
abbrev pub StepsGoOn : Type 0
StepsGoOn = (xs ys : List Entry) (a b c : CoreTerm) → FoldSteps xs a b → FoldSteps ys b c → FoldSteps (xs ++ ys) a c

-- a fold step on a pair is a fold step
abbrev pub NamedStepsAreSteps : Type 0
NamedStepsAreSteps = (entry : Entry) (a b : CoreTerm) → FoldOf entry a b → FoldStep above_function a b
