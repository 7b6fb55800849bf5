-- Pairs of parted loops that can be folded, and loops that can be merged with the ones in their cells.
use Rattle.std.specs.Prelude.{◌≡◌, ◌⊎◌, ℕ, suc, ◌+◌, ◌*◌, ◌&&◌, ◌^◌, ◌<◌, ◌≤◌, max, true, false, Bool, cond, eqb, List, [], ◌∷◌, ◌++◌, map, length}
use Rattle.std.specs.Prelude.{All, ℤ, pos, ◌-ℤ◌, Option, Some}
use Rattle.std.specs.List.{list_all}
use Rattle.sac_base.specs.declared.base.Base.{Base}
use Rattle.sac_base.specs.declared.grid.Grid1.{Grid1}
use Rattle.sac_base.specs.declared.site.Site.{Site}
use Rattle.sac_base.specs.Grids.{has_vector, members}
use Rattle.core_ir.specs.declared.tree.Var.{Var}
use Rattle.core_ir.specs.declared.tree.PartedOp.{PartedOp}
use Rattle.core_ir.specs.declared.tree.PartedOp.TheVariants as parted
use Rattle.core_ir.specs.Terms.{PlainTerm, BlockTerm, RightTerm, GensTerm, PartsTerm, LetTerm, PartHead, Gives, Bind, Plain, NoGens, Gen, NoParts, Part, Parted}
use Rattle.core_ir.specs.Scopes.{plain_uses, parted_uses}
use Rattle.core_ir.specs.Uses.{AvoidsAll, Avoids, AvoidsRight}
use Rattle.core_ir.specs.Counts.{bindings}
use Rattle.core_ir.specs.Meaning.{extents}
use Rattle.core_facts.specs.Facts.{Facts, Fact, note_all, right_facts, block_facts, in_part}
use Rattle.generator_sets.specs.Pieces.{moved}
use Rattle.generator_sets.specs.Counts.{IsCanonicalCount}
use Rattle.core_loops.specs.Indices.{IndexFacts, own_index, note_others, learn_index, offset_of, is_scalar_shape, total_block, total_right}
use Rattle.sac_base.specs.WithLoops.{Range}
use Rattle.core_loops.specs.Loops.{binders, FEW, grid_range, weight, parted_in}

-- ---- selections from a producer

-- one list of offsets for each block: a selection of p at an index that is no index plus c counts as None
abbrev pub plain_offsets : Var → PlainTerm → IndexFacts → List (Option (List ℤ))
plain_offsets p (PlainTerm.Select x y) m = cond (eqb p.0 x.0) (offset_of (m y) ∷ []) []
plain_offsets p _ m = []

-- uses of p in a right side without blocks that are no selection from it
abbrev pub OnlySelected : Var → PlainTerm → Type 0
OnlySelected p (PlainTerm.Select x y) = AvoidsAll p (y ∷ [])
OnlySelected p q = AvoidsAll p (plain_uses q)

module _ (called : ℕ → List (Option (List ℕ))) (p : Var) (n : ℕ) where
  abbrev mutual
    -- the offsets of all selections from p in the block, in order
    pub offsets : BlockTerm → Facts → IndexFacts → List (Option (List ℤ))
    offsets (Gives xs) k m = []
    offsets (Bind xs s r b) k m = offsets_right r k m ++ offsets b (note_all k xs (right_facts called r k)) (learn_index n m xs r k)

    pub offsets_right : RightTerm → Facts → IndexFacts → List (Option (List ℤ))
    offsets_right (Plain q) k m = plain_offsets p q m
    offsets_right (RightTerm.If x a b) k m = offsets a k m ++ offsets b k m
    offsets_right (RightTerm.Loop first start params test body s) k m =
        offsets test (note_all k params []) (note_others m params) ++ offsets body (note_all k params []) (note_others m params)
    offsets_right _ k m = []

abbrev mutual
  -- the block uses p in selections from it alone
  pub Selects : Var → BlockTerm → Type 0
  Selects p (Gives xs) = AvoidsAll p xs
  Selects p (Bind xs s r b) = SelectsRight p r × Selects p b

  pub SelectsRight : Var → RightTerm → Type 0
  SelectsRight p (Plain q) = OnlySelected p q
  SelectsRight p (RightTerm.If x a b) = AvoidsAll p (x ∷ []) × Selects p a × Selects p b
  SelectsRight p (RightTerm.Loop first start params test body s) = AvoidsAll p start × Selects p test × Selects p body
  SelectsRight p r = AvoidsRight p r

-- ---- the producer

pub record Producer : Type 0 where
  pub var : Var
  pub site : Site
  pub frame : List Grid1
  pub base : Base
  pub op : PartedOp
  pub parts : PartsTerm

-- a part's body is total on its grid, and gives a scalar
abbrev pub one_scalar : List Fact → Bool
one_scalar (f ∷ []) = is_scalar_shape f.shape
one_scalar _ = false

abbrev pub TotalParts : (ℕ → List (Option (List ℕ))) → Facts → PartsTerm → Type 0
TotalParts called k NoParts = Unit {0}
TotalParts called k (Part h b rest) =
    (total_block called h.grid b (in_part k h) (own_index (length h.grid) h.index) ≡ true) × (one_scalar (block_facts called b (in_part k h)) ≡ true) ×
    TotalParts called k rest

abbrev pub most_bindings : PartsTerm → ℕ
most_bindings NoParts = 0
most_bindings (Part h b rest) = max (bindings b) (most_bindings rest)

abbrev pub most_binders : PartsTerm → ℕ
most_binders NoParts = 0
most_binders (Part h b rest) = max (binders b) (most_binders rest)

abbrev pub grids_of : PartsTerm → List (List Grid1)
grids_of NoParts = []
grids_of (Part h b rest) = h.grid ∷ grids_of rest

-- ---- the consumer

-- The grid moved by minus c, and the box of a grid, axis by axis: a canonical count depends on bounds and steps, and not on the members alone.
abbrev pub moved_back : List ℤ → List Grid1 → List Grid1
moved_back (c ∷ cs) (g ∷ gs) = record g { lo = g.lo -ℤ c; hi = g.hi -ℤ c } ∷ moved_back cs gs
moved_back _ gs = gs

abbrev pub box_range : List Grid1 → Range
box_range grid = map (λ (g : Grid1). record { lower = g.lo; upper = g.hi; step = pos 1; width = pos 1 }) grid

-- the moved grids of each offset, one list after another
abbrev pub all_moved_back : List (List ℤ) → List (List Grid1) → List (List Grid1)
all_moved_back [] grids = []
all_moved_back (c ∷ cs) grids = map (moved_back c) grids ++ all_moved_back cs grids

-- what a part of the consumer must be
pub record PartFolds (called : ℕ → List (Option (List ℕ))) (k : Facts) (p : Producer) (h : PartHead) (b : BlockTerm) (selected count : ℕ) : Type 0 where
  pub only : Selects p.var b
  -- each selection is at the index plus some c, and stays inside the producer's frame
  pub at : List (List ℤ)
  pub offsets : map (λ (c : List ℤ). Some c) at ≡ Rattle.core_loops.specs.Pairs.offsets called p.var (length h.grid) b (in_part k h)
      (own_index (length h.grid) h.index)
  pub inside : All (λ (c : List ℤ). list_all (λ v. has_vector p.frame (moved v c)) (members h.grid) ≡ true) at
  pub number : length at ≡ selected
  -- a part that selects contains no with-loop and no parted loop
  pub flat : (at ≡ []) ⊎ ((weight b ≡ 0) × (parted_in b ≡ 0))
  pub nodes : bindings b + selected * most_bindings p.parts ≤ 4096
  pub room : binders b + selected * most_binders p.parts ≤ FEW
  -- the box of the part's grid, cut by the grid and the moved ones
  pub frame : List Grid1
  pub box : grid_range frame ≡ box_range h.grid
  pub greatest : ℕ
  pub counted : IsCanonicalCount (h.grid ∷ all_moved_back at (grids_of p.parts)) 0 frame greatest count
  pub fine : greatest ≤ 4096

abbrev pub PartsFold : (ℕ → List (Option (List ℕ))) → Facts → Producer → PartsTerm → ℕ → ℕ → Type 0
PartsFold called k p NoParts selected count = (selected ≡ 0) × (count ≡ 0)
PartsFold called k p (Part h b rest) selected count =
    (s : ℕ) × ((c : ℕ) × ((ss : ℕ) × ((cs : ℕ) × (PartFolds called k p h b s c × PartsFold called k p rest ss cs × (selected ≡ s + ss) × (count ≡ c + cs)))))

abbrev pub AvoidsLets : Var → List LetTerm → Type 0
AvoidsLets p [] = Unit {0}
AvoidsLets p (l ∷ ls) = AvoidsRight p l.right × AvoidsLets p ls

abbrev pub Makes : PartedOp → Type 0
Makes (parted.Fold o x) = ⊥
Makes _ = Unit {0}

-- The producer p, the bindings between, and the consumer's operation and parts, then the rest of the block. `k` are the facts before p, `later` those
-- before the consumer.
pub record IsFoldable (called : ℕ → List (Option (List ℕ))) (above : ℕ) (k later : Facts) (p : Producer) (between : List LetTerm) (op : PartedOp)
    (parts : PartsTerm) (rest : BlockTerm) : Type 0 where
  pub makes : Makes p.op
  pub total : TotalParts called k p.parts
  pub selected : ℕ
  pub count : ℕ
  pub folds : PartsFold called later p parts selected count
  pub used : 0 < selected
  pub few : count ≤ 64
  -- every use in the function is one of these selections
  pub before : AvoidsLets p.var between
  pub operation : AvoidsAll p.var (parted_uses op)
  pub after : Avoids p.var rest
  pub numbers : above ≤ 2 ^ 31 + 1

-- ---- loops whose cells are loops

-- each binding but the one behind the list is total
module _ (called : ℕ → List (Option (List ℕ))) (grid : List Grid1) where
  abbrev pub total_around : List LetTerm → BlockTerm → Facts → IndexFacts → Bool
  total_around [] (Gives xs) k m = false
  total_around [] (Bind xs s r b) k m = total_block called grid b (note_all k xs (right_facts called r k)) (learn_index (length grid) m xs r k)
  total_around (l ∷ ls) b k m = total_right called grid l.right k m && total_around ls b (note_all k l.targets (right_facts called l.right k))
      (learn_index (length grid) m l.targets l.right k)

-- the body is total bindings and one parted genarray, of scalar cells and this frame, which is its result: so many parts does the inner loop have
pub record IsNest (called : ℕ → List (Option (List ℕ))) (k : Facts) (grid : List Grid1) (m : IndexFacts) (frame : List Grid1) (base : Base) (b : BlockTerm)
    (inner : PartsTerm) : Type 0 where
  pub before : List LetTerm
  pub after : List LetTerm
  pub z : Var
  pub site : Site
  pub whole : b ≡ Rattle.core_ir.specs.Terms.chain before (Bind (z ∷ []) site (Parted frame base [] parted.Genarray inner)
      (Rattle.core_ir.specs.Terms.chain after (Gives (z ∷ []))))
  -- no other binding uses it, and each of them is total
  pub unused : AvoidsLets z (before ++ after)
  pub total : total_around called grid before (Bind (z ∷ []) site (Parted frame base [] parted.Genarray inner)
      (Rattle.core_ir.specs.Terms.chain after (Gives (z ∷ [])))) k m ≡ true

abbrev pub count_parts : PartsTerm → ℕ
count_parts NoParts = 0
count_parts (Part h b rest) = suc (count_parts rest)

abbrev pub Nests : (ℕ → List (Option (List ℕ))) → Facts → List Grid1 → Base → PartsTerm → ℕ → Type 0
Nests called k frame base NoParts count = count ≡ 0
Nests called k frame base (Part h b rest) count =
    (inner : PartsTerm) × ((others : ℕ) ×
    (IsNest called (in_part k h) h.grid (own_index (length h.grid) h.index) frame base b inner × Nests called k frame base rest others ×
    (count ≡ count_parts inner + others) × (binders b ≤ FEW)))

pub record IsScalarisable (called : ℕ → List (Option (List ℕ))) (above : ℕ) (k : Facts) (base : Base) (cell : List ℕ) (parts : PartsTerm) : Type 0 where
  pub some : 0 < count_parts parts
  pub frame : List Grid1
  pub count : ℕ
  pub nests : Nests called k frame base parts count
  pub shape : extents frame ≡ cell
  pub index : (v : List ℤ) × (has_vector frame v ≡ true)
  pub few : count ≤ 64
  pub numbers : above ≤ 2 ^ 31 + 1
