-- Functions in which no loop is scalarisable, and blocks whose grids without members have no more axes than the frames of their loops.
use Rattle.std.specs.Prelude.{◌≡◌, ◌⊎◌, ◌≤◌, ℕ, List, [], ◌∷◌, length, All, ℤ, true, Option}
use Rattle.sac_base.specs.declared.grid.Grid1.{Grid1}
use Rattle.sac_base.specs.Grids.{has_vector}
use Rattle.core_ir.specs.declared.tree.Var.{Var}
use Rattle.core_ir.specs.declared.tree.PartedOp.TheVariants as parted
use Rattle.core_ir.specs.Terms.{BlockTerm, RightTerm, GensTerm, PartsTerm, FunTerm, CoreTerm, Gives, Bind, Plain, NoGens, Gen, NoParts, Part}
use Rattle.core_ir.specs.WellFormed.{IsWellFormed, part_grids}
use Rattle.core_facts.specs.Facts.{Facts}
use Rattle.core_loops.specs.Pairs.{IsScalarisable}
use Rattle.core_facts.specs.constants.Called.{called, params_facts}
use Rattle.core_subst.specs.Names.{above_function}
use Rattle.core_walk.specs.Editing.{EachBinding}
use Rattle.scalarise.specs.Scalarised.{NoneLeft}

-- ---- no scalarisable loop

module _ (calls : ℕ → List (Option (List ℕ))) (above : ℕ) where
  abbrev pub CanScalarise : Facts → RightTerm → Type 0
  CanScalarise k (RightTerm.Parted frame base cell parted.Genarray parts) = IsScalarisable calls above k base cell parts
  CanScalarise k _ = ⊥

  -- a loop gives one value
  abbrev pub NotHere : List Var → RightTerm → Facts → Type 0
  NotHere (x ∷ []) r k = CanScalarise k r → ⊥
  NotHere _ r k = Unit {0}

  -- no such loop is bound first
  abbrev pub NotFirst : Facts → BlockTerm → Type 0
  NotFirst k (Gives xs) = Unit {0}
  NotFirst k (Bind xs s r b) = NotHere xs r k

  abbrev pub NoneIn : BlockTerm → Facts → Type 0
  NoneIn b k = EachBinding calls NotFirst b k

abbrev pub NoneScalarisable : CoreTerm → Type 0
NoneScalarisable core = All (λ (f : FunTerm). NoneIn (called core) (above_function f) f.body (params_facts f)) core.functions

-- ---- axes

-- a grid of at most so many axes, or one that has a member
abbrev pub HasAxes : ℕ → List Grid1 → Type 0
HasAxes n grid = (length grid ≤ n) ⊎ ((v : List ℤ) × (has_vector grid v ≡ true))

abbrev mutual
  pub Axes : BlockTerm → Type 0
  Axes (Gives xs) = Unit {0}
  Axes (Bind xs s r b) = AxesRight r × Axes b

  pub AxesRight : RightTerm → Type 0
  AxesRight (Plain p) = Unit {0}
  AxesRight (RightTerm.If x a b) = Axes a × Axes b
  AxesRight (RightTerm.Loop first start params test body s) = Axes test × Axes body
  AxesRight (RightTerm.Call g xs) = Unit {0}
  AxesRight (RightTerm.With o gens) = AxesGens gens
  AxesRight (RightTerm.Parted frame base cell o parts) = All (HasAxes (length frame)) (part_grids parts) × AxesParts parts

  pub AxesGens : GensTerm → Type 0
  AxesGens NoGens = Unit {0}
  AxesGens (Gen h b rest) = Axes b × AxesGens rest

  pub AxesParts : PartsTerm → Type 0
  AxesParts NoParts = Unit {0}
  AxesParts (Part h b rest) = Axes b × AxesParts rest

abbrev pub CoreAxes : CoreTerm → Type 0
CoreAxes core = All (λ (f : FunTerm). Axes f.body) core.functions

-- ---- the law

-- where no grid without members of a well-formed core has more axes than its loop's frame, no scalarisable loop is left either
abbrev pub AxesSuffice : Type 0
AxesSuffice = (core : CoreTerm) → IsWellFormed core → CoreAxes core → NoneLeft core → NoneScalarisable core
