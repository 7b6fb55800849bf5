-- A fold step whose new parts bind new variables.
use Rattle.std.specs.Prelude.{◌≡◌, ◌⊎◌, ℕ, ◌≤◌, List, length, All, Option}
use Rattle.sac_base.specs.Grids.{SplitsVectors, has_vector}
use Rattle.core_ir.specs.declared.tree.Var.{Var}
use Rattle.core_ir.specs.Binders.{bound_in, bound_in_parts}
use Rattle.core_ir.specs.Terms.{BlockTerm, PartsTerm, PartHead, NoParts, Part}
use Rattle.core_ir.specs.WellFormed.{Distinct, part_grids}
use Rattle.core_facts.specs.Facts.{Facts, in_part}
use Rattle.core_loops.specs.Indices.{own_index}
use Rattle.core_loops.specs.Loops.{weight, parted_in}
use Rattle.core_loops.specs.Pairs.{Producer, count_parts}
use Rattle.core_loops.specs.Steps.{Folded, PiecesFold, NewParts, FoldsHere}
use Rattle.core_forms.specs.norm.Alike.{Alike}
use Rattle.core_forms.specs.norm.Fresh.{IsBetween}
use Rattle.core_forms.specs.fold.Copied.{AllCopied, IsOldOrNew}

module _ (called : ℕ → List (Option (List ℕ))) (later : Facts) (p : Producer) (low high : ℕ) where
  -- The folded body of a piece binds each variable once, new ones beside those of the part, and the piece's body is a copy that binds as many.
  pub record IsFreshPiece (h g : PartHead) (b c d : BlockTerm)
      (folded : Folded called p (length h.grid) g.grid b (in_part later h) (own_index (length h.grid) h.index) c) : Type 0 where
    pub once : Distinct (bound_in c)
    pub within : All (IsOldOrNew (bound_in b) low high) (bound_in c)
    pub copied : AllCopied called p (length h.grid) g.grid low high b (in_part later h) (own_index (length h.grid) h.index) c folded
    pub alike : Alike c d

  abbrev pub FreshPieces : (h : PartHead) (b : BlockTerm) (pieces : PartsTerm) → PiecesFold called later p h b pieces → Type 0
  FreshPieces h b NoParts f = Unit {0}
  FreshPieces h b (Part g d rest) f = IsFreshPiece h g b f.1.0 d f.1.1.0 × FreshPieces h b rest f.2

  -- a part with a with-loop or a parted loop stays one part
  abbrev pub StaysOne : BlockTerm → PartsTerm → Type 0
  StaysOne b pieces = (count_parts pieces ≡ 1) ⊎ ((weight b ≡ 0) × (parted_in b ≡ 0))

  -- the indices of each part are split among its pieces
  abbrev pub FreshParts : (old new : PartsTerm) → NewParts called later p old new → Type 0
  FreshParts NoParts new f = Unit {0}
  FreshParts (Part h b rest) new f =
      FreshPieces h b f.0 f.1.1.1 × SplitsVectors (part_grids f.0) (has_vector h.grid) × StaysOne b f.0 × FreshParts rest f.1.0 f.1.1.3

-- A parted loop of a block is folded into another. All variables of the function are below `low`, and those that the new parts bind are from `low` on
-- and below `high`.
pub record FreshFold (called : ℕ → List (Option (List ℕ))) (low high : ℕ) (k : Facts) (b c : BlockTerm) : Type 0 where
  pub step : FoldsHere called low k b c
  pub rises : low ≤ high
  pub once : Distinct (bound_in_parts step.new)
  pub between : All (IsBetween low high) (bound_in_parts step.new)
  pub copies : FreshParts called step.later step.producer low high step.old step.new step.parts
  pub few : count_parts step.new ≤ 64

-- the pair that is folded
abbrev pub Folds : (called : ℕ → List (Option (List ℕ))) (x y : Var) (above : ℕ) (k : Facts) (b c : BlockTerm) → Type 0
Folds called x y above k b c = (h : FoldsHere called above k b c) × ((h.producer.var ≡ x) × (h.consumer ≡ y))

abbrev pub FreshFoldOf : (called : ℕ → List (Option (List ℕ))) (x y : Var) (low high : ℕ) (k : Facts) (b c : BlockTerm) → Type 0
FreshFoldOf called x y low high k b c = (h : FreshFold called low high k b c) × ((h.step.producer.var ≡ x) × (h.step.consumer ≡ y))
