-- A with-loop that becomes a parted loop whose variables are new.
use Rattle.std.specs.Prelude.{ℕ, suc, ◌<◌, ◌≤◌, List, All, Option}
use Rattle.sac_base.specs.declared.grid.Grid1.{Grid1}
use Rattle.sac_base.specs.declared.site.Site.{Site}
use Rattle.core_ir.specs.declared.tree.Var.{Var}
use Rattle.core_ir.specs.declared.tree.CoreOp.{CoreOp}
use Rattle.core_ir.specs.declared.tree.CoreOp.TheVariants as making
use Rattle.core_ir.specs.Binders.{bound_in_right}
use Rattle.core_ir.specs.Terms.{BlockTerm, RightTerm, GensTerm, PartsTerm, NoParts, Part}
use Rattle.core_ir.specs.WellFormed.{Distinct, PartedFits, part_grids}
use Rattle.core_facts.specs.Facts.{Facts}
use Rattle.core_loops.specs.norm_steps.Step.{BaseTable, WithParted, NormHere}
use Rattle.core_forms.specs.norm.Alike.{LabelledAlike}

-- the parts of a parted loop
abbrev pub parts_of : RightTerm → PartsTerm
parts_of (RightTerm.Parted frame t cell o parts) = parts
parts_of _ = NoParts

abbrev pub count_parts : PartsTerm → ℕ
count_parts NoParts = 0
count_parts (Part h b rest) = suc (count_parts rest)

-- a parted loop whose grids are disjoint, lie in its frame, and cover it where the loop is no fold
abbrev pub FrameFits : RightTerm → Type 0
FrameFits (RightTerm.Parted frame t cell o parts) = PartedFits o frame cell (part_grids parts)
FrameFits _ = ⊥

-- the variable whose base is that of the loop
abbrev pub base_var : CoreOp → Var
base_var (making.Genarray x y) = y
base_var (making.Modarray x) = x
base_var (making.Fold o x) = x

-- the grids of the parts, with the number of the generator of each
abbrev pub labels_of :
    (m : BaseTable) (k : Facts) (above : ℕ) (s : Site) (op : CoreOp) (gens : GensTerm) (right : RightTerm) →
    WithParted m k above s op gens right → List (List Grid1 × Option ℕ)
labels_of m k above s (making.Genarray x y) gens right h = h.0.labels
labels_of m k above s (making.Modarray x) gens right h = h.0.labels
labels_of m k above s (making.Fold o x) gens right h = h.0.labels

abbrev pub IsBetween : ℕ → ℕ → Var → Type 0
IsBetween low high x = (low ≤ x.0) × (x.0 < high)

-- One with-loop of a block becomes a parted loop. All variables of the function are below `low`, those that the new loop binds are from `low` on and
-- below `high`, and the table `m` has the bases of those below `first`.
pub record FreshHere (first low high : ℕ) (m : BaseTable) (k : Facts) (b c : BlockTerm) : Type 0 where
  pub step : NormHere low m k b c
  pub rises : low ≤ high
  pub known : (base_var step.op).0 < first
  -- what the new loop binds
  pub once : Distinct (bound_in_right step.right)
  pub between : All (IsBetween low high) (bound_in_right step.right)
  -- bodies are copies
  pub alike : LabelledAlike step.gens (labels_of m k low step.site step.op step.gens step.right step.parted) (parts_of step.right)
  pub fits : FrameFits step.right
  pub few : count_parts (parts_of step.right) ≤ 64
