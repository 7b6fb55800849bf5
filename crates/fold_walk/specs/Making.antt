-- The parts for all parts of a consumer, made of their pieces.
use Rattle.std.specs.Prelude.{◌≡◌, ℕ, ◌+◌, ◌<◌, ◌≤◌, Option, List, [], ◌∷◌, ◌++◌, length, Vec}
use Rattle.std.specs.declared.alloc.Global.{Global}
use Rattle.sac_base.specs.declared.grid.Grid1.{Grid1}
use Rattle.core_ir.specs.declared.tree.Var.{Var}
use Rattle.sac_base.specs.declared.base.Base.{Base}
use Rattle.sac_base.specs.declared.site.Site.{Site}
use Rattle.core_ir.specs.declared.tree.PartedOp.{PartedOp}
use Rattle.core_ir.specs.Terms.{PartTerm, parts_of}
use Rattle.core_facts.specs.Facts.{Facts}
use Rattle.core_loops.specs.Pairs.{Producer}
use Rattle.foldable_pairs.specs.declared.producer.Producer.{Producer as Source}
use Rattle.foldable_pairs.specs.Pairs.{producer_of, IsNear, IsPlanned, Takes}
use Rattle.foldable_pairs.specs.declared.plan.PartPlan.{PartPlan}
use Rattle.folded_parts.specs.Making.{PiecesMade}
use Rattle.fold_walk.specs.fold_laws.Made.{due_pieces, numbered_grids}

-- the pieces of one part, as the code holds them
abbrev pub PieceVec : Type 0
PieceVec = Vec (List Grid1 × Vec ℕ Global) Global

-- the pieces of all parts are those of their plans
abbrev pub AllDue : Var → List PartTerm → List PartPlan → List PieceVec → Type 0
AllDue p [] [] [] = Unit {0}
AllDue p (old ∷ olds) (plan ∷ plans) (pieces ∷ rest) = (numbered_grids pieces.items ≡ due_pieces p old plan) × AllDue p olds plans rest
AllDue p _ _ _ = ⊥

-- how many there are
abbrev pub piece_count : List PieceVec → ℕ
piece_count [] = 0
piece_count (pieces ∷ rest) = length pieces.items + piece_count rest

-- so many pieces become parts
abbrev pub due_count : Var → List PartTerm → List PartPlan → ℕ
due_count p (old ∷ olds) (plan ∷ plans) = length (due_pieces p old plan) + due_count p olds plans
due_count p _ _ = 0

-- the parts for all pieces of all parts
abbrev pub AllMade : Var → List PartTerm → List PartTerm → List PieceVec → ℕ → List PartTerm → ℕ → Type 0
AllMade p sources [] [] n new m = (new ≡ []) × (m ≡ n)
AllMade p sources (old ∷ olds) (pieces ∷ rest) n new m =
    (first : List PartTerm) × ((others : List PartTerm) × ((k : ℕ) ×
    (PiecesMade p sources old pieces.items n first k × AllMade p sources olds rest k others m × (new ≡ first ++ others))))
AllMade p sources _ _ n new m = ⊥

-- The consumer would get more than 64 parts, though its canonical counts are at most 64: parts with an empty grid are not counted there.
pub record GetsMany (called : ℕ → List (Option (List ℕ))) (later : Facts) (p : Producer) (op : PartedOp) (old : List PartTerm) : Type 0 where
  pub plans : List PartPlan
  pub planned : IsPlanned called later p op old plans
  pub many : 64 < due_count p.var old plans

-- the plan of a consumer, and the pieces of its parts
pub record PiecesPlanned (called : ℕ → List (Option (List ℕ))) (later : Facts) (p : Source) (op : PartedOp) (olds : List PartTerm) (pieces : List PieceVec) :
    Type 0 where
  pub plans : List PartPlan
  pub planned : (s : Site) (base : Base) (made : PartedOp) → IsPlanned called later (producer_of p s base made) op olds plans
  pub due : AllDue p.var olds plans pieces
  pub few : piece_count pieces ≤ 64

-- The consumer can't take from the producer, but for producers whose bounds can't be moved and consumers that would get too many parts.
abbrev pub CannotTake : (ℕ → List (Option (List ℕ))) → Facts → Source → PartedOp → List PartTerm → Type 0
CannotTake called later p op olds =
    (s : Site) (base : Base) (made : PartedOp) → IsNear p → Takes called later (producer_of p s base made) op (parts_of olds) →
    GetsMany called later (producer_of p s base made) op olds
