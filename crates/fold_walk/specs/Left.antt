-- Blocks in which no pair is left to fold.
use Rattle.std.specs.Prelude.{◌≡◌, ℕ, List, [], ◌∷◌, Option}
use Rattle.sac_base.specs.declared.base.Base.{Base}
use Rattle.sac_base.specs.declared.grid.Grid1.{Grid1}
use Rattle.sac_base.specs.declared.site.Site.{Site}
use Rattle.core_ir.specs.declared.tree.Var.{Var}
use Rattle.core_ir.specs.declared.tree.PartedOp.{PartedOp}
use Rattle.core_ir.specs.Terms.{BlockTerm, LetTerm, PartTerm, Bind, Parted, chain, parts_of}
use Rattle.core_facts.specs.Facts.{Facts, note_all, right_facts}
use Rattle.core_loops.specs.Pairs.{Producer, IsFoldable, grids_of}
use Rattle.core_loops.specs.Steps.{facts_after}
use Rattle.fold_pieces.specs.Cuts.{IsDense}
use Rattle.fold_pieces.specs.Pieces.{AreNear}
use Rattle.fold_walk.specs.Making.{GetsMany}

-- a foldable pair whose producer is the block's first binding
pub record IsPairAt (called : ℕ → List (Option (List ℕ))) (above : ℕ) (k : Facts) (b : BlockTerm) : Type 0 where
  pub producer : Producer
  pub between : List LetTerm
  pub consumer : Var
  pub site : Site
  pub frame : List Grid1
  pub base : Base
  pub op : PartedOp
  pub old : List PartTerm
  pub rest : BlockTerm
  pub later : Facts
  pub known : later ≡ facts_after called between (note_all k (producer.var ∷ [])
      (right_facts called (Parted producer.frame producer.base [] producer.op producer.parts) k))
  pub foldable : IsFoldable called above k later producer between op (parts_of old) rest
  pub before : b ≡ Bind (producer.var ∷ []) producer.site (Parted producer.frame producer.base [] producer.op producer.parts)
      (chain between (Bind (consumer ∷ []) site (Parted frame base [] op (parts_of old)) rest))

-- the bounds of its grids are near enough to 0 to be moved, and its frame has no gaps
abbrev pub IsNearProducer : Producer → Type 0
IsNearProducer p = IsDense p.frame × AreNear (grids_of p.parts)

-- no pair is foldable here, but for those whose bounds can't be moved and those that would get too many parts
abbrev pub NoPairAt : (ℕ → List (Option (List ℕ))) → ℕ → Facts → BlockTerm → Type 0
NoPairAt called above k b = (h : IsPairAt called above k b) → IsNearProducer h.producer → GetsMany called h.later h.producer h.op h.old

-- ---- the bindings of one block

module _ (called : ℕ → List (Option (List ℕ))) (P : Facts → BlockTerm → Type 0) where
  -- of what begins at each of these bindings alone, those in blocks of theirs left out
  abbrev pub EachBegun : List LetTerm → BlockTerm → Facts → Type 0
  EachBegun [] end k = Unit {0}
  EachBegun (l ∷ ls) end k = P k (chain (l ∷ ls) end) × EachBegun ls end (note_all k l.targets (right_facts called l.right k))
