-- A consumer whose parts were made of the plan of a fold.
use Rattle.std.specs.Prelude.{◌≡◌, ℕ, ◌+◌, ◌^◌, ◌≤◌, Bool, cond, List, [], ◌∷◌, ◌++◌, map, filter, length, Option, Vec}
use Rattle.std.specs.declared.alloc.Global.{Global}
use Rattle.sac_base.specs.declared.base.Base.{Base}
use Rattle.sac_base.specs.declared.grid.Grid1.{Grid1}
use Rattle.sac_base.specs.declared.site.Site.{Site}
use Rattle.sac_base.specs.Grids.{has_vector}
use Rattle.core_ir.specs.declared.tree.Var.{Var}
use Rattle.core_ir.specs.declared.tree.PartedOp.{PartedOp}
use Rattle.core_ir.specs.Terms.{BlockTerm, LetTerm, PartTerm, Bind, Parted, chain, parts_of}
use Rattle.core_ir.specs.Uses.{Avoids}
use Rattle.core_facts.specs.Facts.{Facts, note_all, right_facts}
use Rattle.core_uses.specs.Tests.{is_avoided}
use Rattle.generator_sets.specs.Pieces.{lows}
use Rattle.core_loops.specs.Pairs.{Producer, AvoidsLets}
use Rattle.core_loops.specs.Steps.{facts_after}
use Rattle.fold_pieces.specs.declared.keeping.FoldPiece.{FoldPiece}
use Rattle.foldable_pairs.specs.declared.plan.PartPlan.{PartPlan}
use Rattle.foldable_pairs.specs.Pairs.{CanProduce, IsPlanned}
use Rattle.folded_parts.specs.Making.{PiecesMade}

-- ---- pieces

-- the piece has a member: its first vector is one, if there is any
abbrev pub has_members : FoldPiece → Bool
has_members p = has_vector p.grid (lows p.grid)

abbrev pub numbered_grid : FoldPiece → List Grid1 × List ℕ
numbered_grid p = (p.grid, p.holders.items)

-- The pieces that become parts, each with the number of a part of the producer for each selection. A part that does not use the producer is one piece,
-- and of any other the pieces that have members count.
abbrev pub due_pieces : Var → PartTerm → PartPlan → List (List Grid1 × List ℕ)
due_pieces p part plan = cond (is_avoided p part.body) ((part.head.grid, []) ∷ []) (map numbered_grid (filter has_members plan.pieces.items))

abbrev pub numbered_grids : List (List Grid1 × Vec ℕ Global) → List (List Grid1 × List ℕ)
numbered_grids pieces = map (λ (piece : List Grid1 × Vec ℕ Global). (piece.0, (piece.1).items)) pieces

-- ---- parts

-- the parts for one part of a consumer
pub record PartMade (p : Var) (sources : List PartTerm) (old : PartTerm) (plan : PartPlan) (n : ℕ) (new : List PartTerm) (after : ℕ) : Type 0 where
  pub pieces : List (List Grid1 × Vec ℕ Global)
  pub due : numbered_grids pieces ≡ due_pieces p old plan
  pub made : PiecesMade p sources old pieces n new after

-- the parts for all parts of a consumer, one after another
abbrev pub PartsMade : Var → List PartTerm → List PartTerm → List PartPlan → ℕ → List PartTerm → ℕ → Type 0
PartsMade p sources [] [] n new m = (new ≡ []) × (m ≡ n)
PartsMade p sources (old ∷ olds) (plan ∷ plans) n new m =
    (first : List PartTerm) × ((rest : List PartTerm) × ((k : ℕ) ×
    (PartMade p sources old plan n first k × PartsMade p sources olds plans k rest m × (new ≡ first ++ rest))))
PartsMade p sources _ _ n new m = ⊥

-- ---- a pair

-- The producer's binding goes, and the consumer has the parts of its plan. New variables are numbered from `low` on, and are below `high`.
pub record FoldMade (called : ℕ → List (Option (List ℕ))) (low high : ℕ) (k : Facts) (b c : BlockTerm) : Type 0 where
  pub producer : Producer
  pub sources : List PartTerm
  pub given : producer.parts ≡ parts_of sources
  pub between : List LetTerm
  pub consumer : Var
  pub site : Site
  pub frame : List Grid1
  pub base : Base
  pub op : PartedOp
  pub old : List PartTerm
  pub plans : List PartPlan
  pub new : List PartTerm
  pub rest : BlockTerm
  pub can : CanProduce called k producer.op producer.parts
  pub planned : IsPlanned called (facts_after called between (note_all k (producer.var ∷ [])
      (right_facts called (Parted producer.frame producer.base [] producer.op producer.parts) k))) producer op old plans
  -- no other binding uses the producer
  pub alone : AvoidsLets producer.var between
  pub behind : Avoids producer.var rest
  pub room : low ≤ 2 ^ 31 + 1
  pub made : PartsMade producer.var sources old plans low new high
  pub few : length new ≤ 64
  pub before : b ≡ Bind (producer.var ∷ []) producer.site (Parted producer.frame producer.base [] producer.op producer.parts)
      (chain between (Bind (consumer ∷ []) site (Parted frame base [] op (parts_of old)) rest))
  pub after : c ≡ chain between (Bind (consumer ∷ []) site (Parted frame base [] op (parts_of new)) rest)

-- the pair that is folded
abbrev pub FoldMadeOf : (called : ℕ → List (Option (List ℕ))) (x y : Var) (low high : ℕ) (k : Facts) (b c : BlockTerm) → Type 0
FoldMadeOf called x y low high k b c = (h : FoldMade called low high k b c) × ((h.producer.var ≡ x) × (h.consumer ≡ y))
