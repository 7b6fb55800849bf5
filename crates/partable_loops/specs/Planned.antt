-- What a plan says of the with-loop.
use Rattle.std.specs.List.{list_any}
use Rattle.std.specs.Prelude.{◌≡◌, ◌⊎◌, ◌≤◌, ℕ, true, false, List, [], ◌++◌, map, filter, is_some, length, ℤ, Option, Some}
use Rattle.sac_base.specs.declared.base.Base.{Base}
use Rattle.sac_base.specs.declared.grid.Grid1.{Grid1}
use Rattle.sac_base.specs.declared.op.Op.{Op}
use Rattle.sac_base.specs.declared.site.Site.{Site}
use Rattle.sac_base.specs.Grids.{SplitsVectors, has_vector, times_vector}
use Rattle.sac_base.specs.Parts.{Part as ArrayPart, part_at}
use Rattle.core_ir.specs.declared.tree.Var.{Var}
use Rattle.core_ir.specs.declared.tree.CoreOp.{CoreOp}
use Rattle.core_ir.specs.declared.tree.CoreOp.TheVariants as making
use Rattle.core_ir.specs.Meaning.{extents}
use Rattle.core_ir.specs.Terms.{GensTerm, NoGens, Gen}
use Rattle.core_ir.specs.WellFormed.{IsFrame}
use Rattle.core_facts.specs.Facts.{Facts}
use Rattle.core_loops.specs.norm.Norm.{NameFirst}
use Rattle.partable_loops.specs.declared.planning.PartPlan.{PartPlan}
use Rattle.core_loops.specs.Loops.{IsPartable}
use Rattle.partable_loops.specs.Counted.{generator_count}
use Rattle.partable_loops.specs.Framings.{IsResult, MayStand}

-- a grid of a plan, with the first generator that has its members
abbrev pub Label : Type 0
Label = List Grid1 × Option ℕ

-- a fold has no cell where no generator holds
abbrev pub needed_parts : CoreOp → List Label → List Label
needed_parts (making.Genarray x y) labels = labels
needed_parts (making.Modarray x) labels = labels
needed_parts (making.Fold o x) labels = filter (λ (p : Label). is_some p.1) labels

-- each generator has no names, or as many as this
abbrev pub AllNamed : ℕ → GensTerm → Type 0
AllNamed n NoGens = Unit {0}
AllNamed n (Gen h b rest) = ((h.names ≡ []) ⊎ (length h.names ≡ n)) × AllNamed n rest

-- a with-loop that can become a parted loop: a partable one whose array may be
abbrev pub IsPlannable : Facts → ℕ → Site → CoreOp → GensTerm → Type 0
IsPlannable k above s op gens = IsPartable k above s op gens × MayStand k op

-- Of each operation. The base is that of the default, the array or the neutral value.
pub record IsPlan (k : Facts) (above : ℕ) (s : Site) (op : CoreOp) (gens : GensTerm) (base : Base) (plan : PartPlan) : Type 0 where
  pub partable : IsPartable k above s op gens
  pub base_is : partable.base ≡ base
  pub frame_is : partable.frame ≡ plan.frame
  pub form : partable.planned.form ≡ record { base = partable.base; shape = plan.cell }
  pub count : length partable.planned.ranges ≡ generator_count gens
  pub first : NameFirst partable.grids plan.parts.items
  pub frame : IsFrame plan.frame
  pub result : IsResult op plan.frame plan.cell
  -- all indices, split into few grids
  pub labels : List Label
  pub splits : SplitsVectors (map (λ (p : Label). p.0) labels) (has_vector plan.frame)
  pub few : length labels ≤ 64
  pub needed : plan.parts.items ≡ needed_parts op labels
  pub names : AllNamed (length plan.frame) gens ⊎ (labels ≡ [])

-- each vector of the frame is in one grid
abbrev pub Covers : List Grid1 → List Label → Type 0
Covers frame labels = (v : List ℤ) → has_vector frame v ≡ true → times_vector (map (λ (p : Label). p.0) labels) v ≡ 1

-- each vector of the frame is in one grid, or in none and in no generator
abbrev pub CoversHeld : List Grid1 → List (List Grid1) → List Label → Type 0
CoversHeld frame grids labels = (v : List ℤ) → has_vector frame v ≡ true → (times_vector (map (λ (p : Label). p.0) labels) v ≡ 1) ⊎
    ((list_any (λ g. has_vector g v) grids ≡ false) × (list_any (λ (p : Label). has_vector p.0 v) labels ≡ false))

pub record IsGenarrayPlan (k : Facts) (above : ℕ) (s : Site) (shape default : Var) (gens : GensTerm) (base : Base) (plan : PartPlan) : Type 0 where
  pub plan_is : IsPlan k above s (making.Genarray shape default) gens base plan
  pub known : (k default).shape ≡ Some plan.cell
  pub whole : plan_is.partable.planned.shape ≡ extents plan_is.partable.frame ++ plan.cell
  pub cover : Covers plan_is.partable.frame plan.parts.items

pub record IsModarrayPlan (k : Facts) (above : ℕ) (s : Site) (array : Var) (gens : GensTerm) (base : Base) (plan : PartPlan) : Type 0 where
  pub plan_is : IsPlan k above s (making.Modarray array) gens base plan
  pub shape : List ℕ
  pub known : (k array).shape ≡ Some shape
  pub whole : plan_is.partable.planned.shape ≡ extents plan_is.partable.frame ++ plan.cell
  -- each index of the frame has an old cell
  pub old : (v : List ℤ) → has_vector plan_is.partable.frame v ≡ true → (q : ArrayPart) × ((part_at shape v ≡ Some q) × (q.shape ≡ plan.cell))
  pub cover : Covers plan_is.partable.frame plan.parts.items

pub record IsFoldPlan (k : Facts) (above : ℕ) (s : Site) (o : Op) (neutral : Var) (gens : GensTerm) (base : Base) (plan : PartPlan) : Type 0 where
  pub plan_is : IsPlan k above s (making.Fold o neutral) gens base plan
  pub known : (k neutral).shape ≡ Some plan.cell
  pub cover : CoversHeld plan_is.partable.frame plan_is.partable.grids plan.parts.items

-- the plan of a with-loop
abbrev pub PlanFits : Facts → ℕ → Site → CoreOp → GensTerm → Base → PartPlan → Type 0
PlanFits k above s (making.Genarray x y) gens base plan = IsGenarrayPlan k above s x y gens base plan
PlanFits k above s (making.Modarray x) gens base plan = IsModarrayPlan k above s x gens base plan
PlanFits k above s (making.Fold o x) gens base plan = IsFoldPlan k above s o x gens base plan
