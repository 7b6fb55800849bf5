-- A binding of a parted loop, and the loop as a producer.
use Rattle.std.specs.Prelude.{◌≡◌, ℕ, List, [], ◌∷◌, ◌++◌, length}
use Rattle.core_ir.specs.declared.tree.Var.{Var}
use Rattle.core_ir.specs.declared.tree.PartedLoop.{PartedLoop, out-PartedLoop}
use Rattle.sac_base.specs.declared.base.Base.{Base}
use Rattle.sac_base.specs.declared.grid.Grid1.{Grid1}
use Rattle.sac_base.specs.declared.site.Site.{Site}
use Rattle.core_ir.specs.declared.tree.PartedOp.{PartedOp}
use Rattle.core_ir.specs.Terms.{LetTerm, PartsTerm, RightTerm, Parted}
use Rattle.core_ir.specs.Uses.{AvoidsAll, AvoidsRight}
use Rattle.core_ir.specs.View.{parted_term}
use Rattle.core_loops.specs.Pairs.{AvoidsLets}
use Rattle.foldable_pairs.specs.declared.producer.Producer.{Producer as Source}

-- the binding of a variable to a parted loop of scalar cells
pub record BindsLoop (l : LetTerm) (x : Var) (p : PartedLoop) : Type 0 where
  pub targets : l.targets ≡ x ∷ []
  pub right : l.right ≡ parted_term p
  pub scalars : (out-PartedLoop p).cell ≡ []

-- the binding of a variable to a parted loop of scalar cells, as a term
abbrev pub loop_let : Var → Site → List Grid1 → Base → PartedOp → PartsTerm → LetTerm
loop_let x s frame base op parts = record { targets = x ∷ []; site = s; right = Parted frame base [] op parts }

abbrev pub BindsNoLoop : LetTerm → Type 0
BindsNoLoop l = (x : Var) (s : Site) (frame : List Grid1) (base : Base) (op : PartedOp) (parts : PartsTerm) → l ≡ loop_let x s frame base op parts → ⊥

-- the loop with other parts
abbrev pub loop_with : PartedLoop → PartsTerm → RightTerm
loop_with p parts = let loop = out-PartedLoop p in Parted loop.frame loop.base loop.cell loop.op parts

-- the loop as a producer
pub record IsSource (s : Source) (x : Var) (p : PartedLoop) : Type 0 where
  pub var : s.var ≡ x
  pub frame : s.frame.now ≡ (out-PartedLoop p).frame
  pub parts : s.parts.now ≡ (out-PartedLoop p).parts.items
