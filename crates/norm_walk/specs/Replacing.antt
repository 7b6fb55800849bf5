-- With-loops that become parted loops on one walk over a block.
use Rattle.std.specs.Prelude.{◌≡◌, ◌⊎◌, ℕ, suc, ◌+◌, ◌<◌, nat_lt, if◌then◌else◌, List, Option, Some, None}
use Rattle.sac_base.specs.declared.base.Base.{Base}
use Rattle.sac_base.specs.declared.site.Site.{Site}
use Rattle.core_ir.specs.declared.tree.Var.{Var}
use Rattle.core_ir.specs.declared.tree.CoreOp.{CoreOp}
use Rattle.core_ir.specs.Edits.{Edited}
use Rattle.core_ir.specs.Terms.{BlockTerm, RightTerm, GensTerm, LetTerm, GenTerm, Bind, With, Parted, gens_of, parts_of}
use Rattle.core_facts.specs.Facts.{Fact, Facts}
use Rattle.core_loops.specs.Steps.{fact_ways}
use Rattle.core_walk.specs.Editing.{EachBinding, EditStep}
use Rattle.partable_loops.specs.Planned.{IsPlannable, PlanFits}
use Rattle.partable_loops.specs.declared.planning.PartPlan.{PartPlan}
use Rattle.parted_bodies.specs.declared.names.Progress.{Progress}
use Rattle.parted_bodies.specs.Making.{base_var, binds_of, made_parts, parted_op}

-- ---- all with-loops of a term

module _ (P : Facts → Site → CoreOp → GensTerm → Type 0) where
  -- of the with-loop that is bound first, by what is known there
  abbrev pub WithFirst : Facts → BlockTerm → Type 0
  WithFirst k (Bind xs s (With op gens) rest) = P k s op gens
  WithFirst k _ = Unit {0}

  -- of each with-loop
  abbrev pub EachWith : (ℕ → List (Option (List ℕ))) → BlockTerm → Facts → Type 0
  EachWith called b k = EachBinding called WithFirst b k

-- ---- one with-loop

-- a with-loop of which nothing is left to do: its base is not known, or it cannot become a parted loop
abbrev pub IsLeft : (Var → Option Base) → ℕ → ℕ → Facts → Site → CoreOp → GensTerm → Type 0
IsLeft bases first above k s op gens =
    (base : Base) → bases (base_var op) ≡ Some base → (base_var op).0 < first → IsPlannable k above s op gens → ⊥

module _ (bases : Var → Option Base) (first : ℕ) where
  -- the base of a with-loop, if it is that of a variable of the function where the walk began
  abbrev pub old_base : CoreOp → Option Base
  old_base op = if nat_lt (base_var op).0 first then bases (base_var op) else None

  -- a plan that fits, and the base of such a variable
  pub record IsPlanned (k : Facts) (above : ℕ) (op : CoreOp) (gens : GensTerm) (base : Base) (plan : PartPlan) : Type 0 where
    pub fits : (s : Site) (b : Base) → PlanFits k above s op gens b plan
    pub known : bases (base_var op) ≡ Some base
    pub old : (base_var op).0 < first

  -- the parted loop of a plan, whose variables have the next numbers
  pub record ReplacedAt (p q : Progress) (k : Facts) (s : Site) (op : CoreOp) (gens : List GenTerm) (right : RightTerm) : Type 0 where
    pub plan : PartPlan
    pub fits : (base : Base) → PlanFits k p.next s op (gens_of gens) base plan
    pub base : Base
    pub known : bases (base_var op) ≡ Some base
    pub old : (base_var op).0 < first
    pub made : right ≡ Parted plan.frame base plan.cell (parted_op op) (parts_of (made_parts op s gens plan.parts.items p.next))
    pub after : q ≡ record { next = p.next + binds_of (made_parts op s gens plan.parts.items p.next); replaced = suc p.replaced }

  pub record ReplacedHere (p q : Progress) (k : Facts) (b c : BlockTerm) : Type 0 where
    pub targets : List Var
    pub site : Site
    pub op : CoreOp
    pub gens : List GenTerm
    pub right : RightTerm
    pub rest : BlockTerm
    pub at : ReplacedAt p q k site op gens right
    pub before : b ≡ Bind targets site (With op (gens_of gens)) rest
    pub now : c ≡ Bind targets site right rest

  -- a with-loop whose generators have been walked through became a parted loop, or nothing is left to do
  abbrev pub ReplacedOrLeft : Progress → Progress → Facts → Site → CoreOp → List GenTerm → RightTerm → Type 0
  ReplacedOrLeft p q k s op gens t = ReplacedAt p q k s op gens t ⊎ ((q ≡ p) × (t ≡ With op (gens_of gens)) × IsLeft bases first p.next k s op (gens_of gens))

  -- no with-loop that is left to do is bound first
  abbrev pub NoneAt : Progress → Facts → BlockTerm → Type 0
  NoneAt p = WithFirst (IsLeft bases first p.next)

-- ---- a walk

module _ (called : ℕ → List (Option (List ℕ))) (bases : Var → Option Base) (first : ℕ) where
  -- what the walk does with a right side
  abbrev pub NormStep : Facts → Progress → Progress → List Var → Site → RightTerm → List Fact → List LetTerm → RightTerm → List Fact → Type 0
  NormStep = EditStep called Progress (λ p. p.replaced) (ReplacedHere bases first) (NoneAt bases first)

  -- with-loops were replaced one after another
  pub data Walked : Facts → Progress → Progress → BlockTerm → BlockTerm → Type 0 where
    stays : {k : Facts} {p : Progress} {b : BlockTerm} → Walked k p p b b
    goes : {k : Facts} {p q r : Progress} {b c d : BlockTerm} →
        Edited Facts (fact_ways called) (ReplacedHere bases first p q) k b c → Walked k q r c d → Walked k p r b d

  -- a walk that replaced none leaves none
  pub record BlockWalked (k : Facts) (p q : Progress) (b c : BlockTerm) : Type 0 where
    pub walked : Walked k p q b c
    pub none : q.replaced ≡ p.replaced → EachWith (IsLeft bases first p.next) called b k
