-- The laws of plans and of foldable pairs.
use Rattle.std.specs.Prelude.{◌≡◌, ◌↔◌, ℕ, ◌+◌, ◌^◌, ◌≤◌, List, ℤ, Option, Some, slice_get}
use Rattle.core_ir.specs.declared.tree.PartedOp.{PartedOp}
use Rattle.core_ir.specs.Terms.{BlockTerm, LetTerm, PartsTerm, PartTerm, parts_of}
use Rattle.core_ir.specs.Uses.{Avoids}
use Rattle.core_facts.specs.Facts.{Facts}
use Rattle.core_loops.specs.Pairs.{Producer, IsFoldable, AvoidsLets, grids_of}
use Rattle.core_loops.specs.Steps.{HeldIn}
use Rattle.fold_pieces.specs.Pieces.{HasFirst}
use Rattle.foldable_pairs.specs.declared.plan.PartPlan.{PartPlan}
use Rattle.foldable_pairs.specs.Pairs.{CanProduce, IsPlanned, Takes}

-- what the first grid has lies in the part of its number
abbrev pub HoldersAreHeld : Type 0
HoldersAreHeld =
    (parts : List PartTerm) (v : List ℤ) (j : ℕ) → HasFirst (grids_of (parts_of parts)) v j →
    (part : PartTerm) × ((slice_get parts j ≡ Some part) × HeldIn (parts_of parts) v part.head part.body)

-- a plan's consumer takes from the producer
abbrev pub PlansTake : Type 0
PlansTake =
    (called : ℕ → List (Option (List ℕ))) (later : Facts) (p : Producer) (op : PartedOp) (parts : List PartTerm) (plans : List PartPlan) →
    IsPlanned called later p op parts plans → Takes called later p op (parts_of parts)

-- a pair is foldable where the producer can produce, the consumer takes from it, no other binding uses it, and numbers of variables are left
abbrev pub PairsAreBoth : Type 0
PairsAreBoth =
    (called : ℕ → List (Option (List ℕ))) (above : ℕ) (k later : Facts) (p : Producer) (between : List LetTerm) (op : PartedOp) (parts : PartsTerm)
    (rest : BlockTerm) →
    IsFoldable called above k later p between op parts rest ↔
    (CanProduce called k p.op p.parts × Takes called later p op parts × AvoidsLets p.var between × Avoids p.var rest × (above ≤ 2 ^ 31 + 1))
