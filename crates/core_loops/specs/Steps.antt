-- What a fold changes in a block.
use Rattle.std.specs.Prelude.{◌≡◌, ◌⊎◌, ℕ, Bool, true, false, ◌||◌, eqb, List, [], ◌∷◌, length, ℤ, Option}
use Rattle.sac_base.specs.declared.base.Base.{Base}
use Rattle.sac_base.specs.declared.grid.Grid1.{Grid1}
use Rattle.sac_base.specs.declared.site.Site.{Site}
use Rattle.sac_base.specs.Grids.{has_vector}
use Rattle.core_ir.specs.declared.tree.Var.{Var}
use Rattle.core_ir.specs.declared.tree.PartedOp.{PartedOp}
use Rattle.core_ir.specs.Edits.{Ways}
use Rattle.core_ir.specs.Renaming.{Link, Renamed, under}
use Rattle.core_ir.specs.Terms.{PlainTerm, BlockTerm, RightTerm, PartsTerm, LetTerm, PartHead, Gives, Bind, Plain, NoParts, Part, Parted, chain}
use Rattle.core_ir.specs.Uses.{Avoids, AvoidsEach, AvoidsParts, targets_of}
use Rattle.core_facts.specs.Facts.{Facts, note_all, right_facts, in_part}
use Rattle.generator_sets.specs.Pieces.{moved}
use Rattle.core_loops.specs.Indices.{IndexFacts, Plus, own_index, note_others, learn_index}
use Rattle.core_loops.specs.Pairs.{Producer, IsFoldable}

-- how facts grow on the way to a place
abbrev pub fact_ways : (ℕ → List (Option (List ℕ))) → Ways Facts
fact_ways called = record {
  learn = λ k xs s r. note_all k xs (right_facts called r k);
  hide = λ k xs. note_all k xs [];
  enter = λ k h. in_part k h;
}

abbrev pub facts_after : (ℕ → List (Option (List ℕ))) → List LetTerm → Facts → Facts
facts_after called [] k = k
facts_after called (l ∷ ls) k = facts_after called ls (note_all k l.targets (right_facts called l.right k))

-- each variable is linked with itself
abbrev pub itself : Link
itself x y = eqb x.0 y.0

-- the part that holds an index is this one
abbrev pub HeldIn : PartsTerm → List ℤ → PartHead → BlockTerm → Type 0
HeldIn NoParts v h b = ⊥
HeldIn (Part g c rest) v h b = ((has_vector g.grid v ≡ true) × (g ≡ h) × (c ≡ b)) ⊎ ((has_vector g.grid v ≡ false) × HeldIn rest v h b)

-- A selection from the producer at the index plus an offset becomes the bindings of the producer's part that holds all members of the grid so moved.
pub record TakenAt (p : Producer) (grid : List Grid1) (m : IndexFacts) (xs : List Var) (r : RightTerm) (d c : BlockTerm) : Type 0 where
  pub target : Var
  pub index : Var
  pub offset : List ℤ
  pub targets : xs ≡ target ∷ []
  pub selects : r ≡ Plain (PlainTerm.Select p.var index)
  pub at : m index ≡ Plus offset
  pub head : PartHead
  pub body : BlockTerm
  pub held : (v : List ℤ) → has_vector grid v ≡ true → HeldIn p.parts (moved v offset) head body
  -- the part's bindings with other variables, below the producer's index
  pub own : Var
  pub result : Var
  pub lets : List LetTerm
  pub renamed : Renamed (under itself head.index own) body (chain lets (Gives (result ∷ [])))
  pub avoids : AvoidsEach (targets_of lets) d
  pub alone : Avoids own d
  pub first : Site
  pub last : Site
  pub made : c ≡ Bind (own ∷ []) first (Plain (PlainTerm.Copy index)) (chain lets (Bind (target ∷ []) last (Plain (PlainTerm.Copy result)) d))

-- n is the number of the consumer's axes, and the grid that of a part's piece
module _ (called : ℕ → List (Option (List ℕ))) (p : Producer) (n : ℕ) (grid : List Grid1) where
  abbrev mutual
    pub Folded : BlockTerm → Facts → IndexFacts → BlockTerm → Type 0
    Folded (Gives xs) k m c = c ≡ Gives xs
    Folded (Bind xs s r b) k m c =
        ((q : RightTerm) × ((d : BlockTerm) ×
        ((c ≡ Bind xs s q d) × FoldedRight r k m q × Folded b (note_all k xs (right_facts called r k)) (learn_index n m xs r k) d)))
        ⊎ ((d : BlockTerm) × (TakenAt p grid m xs r d c × Folded b (note_all k xs (right_facts called r k)) (learn_index n m xs r k) d))

    pub FoldedRight : RightTerm → Facts → IndexFacts → RightTerm → Type 0
    FoldedRight (RightTerm.If x a b) k m q = (c : BlockTerm) × ((d : BlockTerm) × ((q ≡ RightTerm.If x c d) × Folded a k m c × Folded b k m d))
    FoldedRight (RightTerm.Loop first start params test body s) k m q =
        (c : BlockTerm) × ((d : BlockTerm) ×
        ((q ≡ RightTerm.Loop first start params c d s) × Folded test (note_all k params []) (note_others m params) c × Folded body (note_all k params [])
        (note_others m params) d))
    FoldedRight r k m q = q ≡ r

abbrev pub append_parts : PartsTerm → PartsTerm → PartsTerm
append_parts NoParts others = others
append_parts (Part h b rest) others = Part h b (append_parts rest others)

-- some part has the index
abbrev pub any_has : PartsTerm → List ℤ → Bool
any_has NoParts v = false
any_has (Part h b rest) v = has_vector h.grid v || any_has rest v

module _ (called : ℕ → List (Option (List ℕ))) (later : Facts) (p : Producer) where
  -- pieces of a part with its site, each with the folded body and other variables
  abbrev pub PiecesFold : PartHead → BlockTerm → PartsTerm → Type 0
  PiecesFold h b NoParts = Unit {0}
  PiecesFold h b (Part g d rest) =
      (g.site ≡ h.site) × ((c : BlockTerm) ×
      (Folded called p (length h.grid) g.grid b (in_part later h) (own_index (length h.grid) h.index) c × Renamed (under itself h.index g.index) c d)) ×
      PiecesFold h b rest

  -- the pieces of each part have together its indices
  abbrev pub NewParts : PartsTerm → PartsTerm → Type 0
  NewParts NoParts new = new ≡ NoParts
  NewParts (Part h b rest) new =
      (pieces : PartsTerm) × ((others : PartsTerm) ×
      ((new ≡ append_parts pieces others) × PiecesFold h b pieces × ((v : List ℤ) → any_has pieces v ≡ has_vector h.grid v) × NewParts rest others))

-- the producer's binding goes, and the consumer gets new parts
pub record FoldsHere (called : ℕ → List (Option (List ℕ))) (above : ℕ) (k : Facts) (b c : BlockTerm) : Type 0 where
  pub producer : Producer
  pub between : List LetTerm
  pub consumer : Var
  pub site : Site
  pub frame : List Grid1
  pub base : Base
  pub op : PartedOp
  pub old : PartsTerm
  pub new : PartsTerm
  pub rest : BlockTerm
  pub later : Facts
  pub known : later ≡ facts_after called between (note_all k (producer.var ∷ [])
      (right_facts called (Parted producer.frame producer.base [] producer.op producer.parts) k))
  pub foldable : IsFoldable called above k later producer between op old rest
  pub parts : NewParts called later producer old new
  pub gone : AvoidsParts producer.var new
  pub before : b ≡ Bind (producer.var ∷ []) producer.site (Parted producer.frame producer.base [] producer.op producer.parts)
      (chain between (Bind (consumer ∷ []) site (Parted frame base [] op old) rest))
  pub after : c ≡ chain between (Bind (consumer ∷ []) site (Parted frame base [] op new) rest)
