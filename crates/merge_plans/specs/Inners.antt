-- Parts of a loop, one after another, whose bodies have an inner loop.
use Rattle.std.specs.Prelude.{◌≡◌, ℕ, ◌+◌, ◌≤◌, List, [], ◌∷◌, length, Option}
use Rattle.sac_base.specs.declared.base.Base.{Base}
use Rattle.sac_base.specs.declared.grid.Grid1.{Grid1}
use Rattle.core_ir.specs.declared.tree.Var.{Var}
use Rattle.core_ir.specs.declared.tree.PartedOp.TheVariants as parted
use Rattle.core_ir.specs.Terms.{RightTerm, PartsTerm, PartTerm, NoParts, Parted}
use Rattle.core_facts.specs.Facts.{Facts, in_part}
use Rattle.core_loops.specs.Indices.{own_index}
use Rattle.core_loops.specs.Loops.{binders, FEW}
use Rattle.core_loops.specs.Pairs.{AvoidsLets, IsNest, count_parts}
use Rattle.merge_plans.specs.Mergeable.{FitBehind}
use Rattle.merge_plans.specs.Openings.{Opened}

-- the parts of a parted loop; any other right side has none
abbrev pub parts_in : RightTerm → PartsTerm
parts_in (Parted frame base cell op parts) = parts
parts_in _ = NoParts

-- what can be seen of a parted loop in a body without facts: it is the body's result, and no other binding uses it
pub record HasInner (grid frame : List Grid1) (base : Base) (o : Opened) : Type 0 where
  pub target : Var
  pub targets : o.targets ≡ target ∷ []
  pub results : o.results ≡ target ∷ []
  pub form : o.right ≡ Parted frame base [] parted.Genarray (parts_in o.right)
  pub fits : FitBehind grid (parts_in o.right)
  pub before : AvoidsLets target o.before
  pub after : AvoidsLets target o.after

module _ (called : ℕ → List (Option (List ℕ))) (k : Facts) (frame : List Grid1) (base : Base) where
  -- a part whose body is total bindings and an inner loop of this frame, which has so many parts
  pub record IsInner (p : PartTerm) (count : ℕ) : Type 0 where
    pub inner : PartsTerm
    pub nest : IsNest called (in_part k p.head) p.head.grid (own_index (length p.head.grid) p.head.index) frame base p.body inner
    pub number : count ≡ count_parts inner
    pub room : binders p.body ≤ FEW
    pub fits : FitBehind p.head.grid inner

  -- all parts are so, and have together so many inner parts
  abbrev pub AreInner : List PartTerm → ℕ → Type 0
  AreInner [] count = count ≡ 0
  AreInner (p ∷ ps) count = (c : ℕ) × ((others : ℕ) × (IsInner p c × AreInner ps others × (count ≡ c + others)))
