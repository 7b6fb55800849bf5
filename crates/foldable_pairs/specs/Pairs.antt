-- What a plan of a fold says.
use Rattle.std.specs.Prelude.{◌≡◌, ℕ, ◌+◌, ◌<◌, ◌≤◌, true, List, [], ◌∷◌, length, replicate, pos, Option, Some}
use Rattle.std.specs.List.{All}
use Rattle.sac_base.specs.declared.base.Base.{Base}
use Rattle.sac_base.specs.declared.grid.Grid1.{Grid1}
use Rattle.sac_base.specs.declared.site.Site.{Site}
use Rattle.sac_base.specs.Grids.{has_vector, SplitsVectors}
use Rattle.core_ir.specs.declared.tree.PartedOp.{PartedOp}
use Rattle.core_ir.specs.declared.tree.Var.{Var}
use Rattle.core_ir.specs.Scopes.{parted_uses}
use Rattle.core_ir.specs.Terms.{BlockTerm, PartsTerm, PartTerm}
use Rattle.core_ir.specs.Uses.{AvoidsAll}
use Rattle.core_ir.specs.WellFormed.{Covered}
use Rattle.core_facts.specs.Facts.{Facts, note, shape_fact, block_facts}
use Rattle.core_loops.specs.Indices.{note_index, total_block, Plus, Other}
use Rattle.core_loops.specs.Pairs.{Producer, PartFolds, PartsFold, Makes, TotalParts, one_scalar, grids_of}
use Rattle.fold_pieces.specs.declared.keeping.FoldPiece.{FoldPiece}
use Rattle.fold_pieces.specs.Cuts.{IsDense}
use Rattle.fold_pieces.specs.Kept.{grids_in}
use Rattle.fold_pieces.specs.Pieces.{Hold, AreNear}
use Rattle.foldable_pairs.specs.Parts.{terms}
use Rattle.foldable_pairs.specs.declared.plan.PartPlan.{PartPlan}
use Rattle.foldable_pairs.specs.declared.producer.Producer.{Producer as Source}

-- what a fold reads of a producer; its site, base and operation are not read
abbrev pub producer_of : Source → Site → Base → PartedOp → Producer
producer_of p site base op = record { var = p.var; site = site; frame = p.frame.now; base = base; op = op; parts = terms p.parts.now }

-- bounds of the producer's grids are near enough to 0 to be moved
abbrev pub IsNear : Source → Type 0
IsNear p = IsDense p.frame.now × AreNear (grids_of (terms p.parts.now))

-- a body with this index never faults at a member of the grid, and gives a scalar
abbrev pub GivesScalar : (ℕ → List (Option (List ℕ))) → Facts → List Grid1 → Var → BlockTerm → Type 0
GivesScalar called k grid index b =
    (total_block called grid b (note k index (shape_fact (Some (length grid ∷ [])))) (note_index (λ x. Other) index (Plus (replicate (length grid) (pos 0))))
    ≡ true) × (one_scalar (block_facts called b (note k index (shape_fact (Some (length grid ∷ []))))) ≡ true)

-- a producer's facts are those before it
pub record CanProduce (called : ℕ → List (Option (List ℕ))) (k : Facts) (op : PartedOp) (parts : PartsTerm) : Type 0 where
  pub makes : Makes op
  pub total : TotalParts called k parts

-- the pieces of a part have together its members, each once, and for each selection the number of the producer's part that holds what is selected
pub record PartPlanned (called : ℕ → List (Option (List ℕ))) (k : Facts) (p : Producer) (part : PartTerm) (plan : PartPlan) (selected count : ℕ) : Type 0 where
  pub folds : PartFolds called k p part.head part.body selected count
  pub split : Covered p.frame (grids_of p.parts) → SplitsVectors (grids_in plan.pieces.items) (has_vector part.head.grid)
  pub held : All (λ (piece : FoldPiece). Hold (grids_of p.parts) folds.at piece.grid piece.holders.items) plan.pieces.items

abbrev pub PartsPlanned : (ℕ → List (Option (List ℕ))) → Facts → Producer → List PartTerm → List PartPlan → ℕ → ℕ → Type 0
PartsPlanned called k p [] [] selected count = (selected ≡ 0) × (count ≡ 0)
PartsPlanned called k p [] (plan ∷ plans) selected count = ⊥
PartsPlanned called k p (part ∷ parts) [] selected count = ⊥
PartsPlanned called k p (part ∷ parts) (plan ∷ plans) selected count =
    (s : ℕ) × ((c : ℕ) × ((ss : ℕ) × ((cs : ℕ) × (PartPlanned called k p part plan s c × PartsPlanned called k p parts plans ss cs ×
    (selected ≡ s + ss) × (count ≡ c + cs)))))

-- The consumer's part of a foldable pair: all but what is said of the producer's own parts, of other bindings and of numbers of variables.
pub record Takes (called : ℕ → List (Option (List ℕ))) (later : Facts) (p : Producer) (op : PartedOp) (parts : PartsTerm) : Type 0 where
  pub selected : ℕ
  pub count : ℕ
  pub folds : PartsFold called later p parts selected count
  pub used : 0 < selected
  pub few : count ≤ 64
  pub operation : AvoidsAll p.var (parted_uses op)

pub record IsPlanned (called : ℕ → List (Option (List ℕ))) (later : Facts) (p : Producer) (op : PartedOp) (parts : List PartTerm) (plans : List PartPlan) :
    Type 0 where
  pub selected : ℕ
  pub count : ℕ
  pub folds : PartsPlanned called later p parts plans selected count
  pub used : 0 < selected
  pub few : count ≤ 64
  pub operation : AvoidsAll p.var (parted_uses op)
