-- When a core is well formed.
use Rattle.std.specs.Prelude.{◌≡◌, ℕ, ◌^◌, ◌<◌, ◌≤◌, true, false, cond, eqb, List, [], ◌∷◌, ◌++◌, map, length, All, AllPairs, Contains, zip, ℤ, pos}
use Rattle.std.specs.Prelude.{FitsSigned, Option, Some, None, slice_get}
use mir.Syntax.{w32}
use Rattle.sac_base.specs.declared.base.Base.{Base}
use Rattle.sac_base.specs.declared.base.Base.TheVariants.{Int, Bool as Truth}
use Rattle.sac_base.specs.declared.grid.Grid1.{Grid1}
use Rattle.sac_base.specs.declared.op.Op.{Op}
use Rattle.sac_base.specs.declared.op.Op.TheVariants as op
use Rattle.sac_base.specs.declared.types.ArrayType.{ArrayType}
use Rattle.sac_base.specs.Arrays.{IsArray, IsWellTyped, size, MOST}
use Rattle.sac_base.specs.Grids.{has_vector, AreDisjoint}
use Rattle.sac_base.specs.Shapes.{IsExtent, IsShape}
use Rattle.sac_base.specs.Types.{compatible}
use Rattle.sac_base.specs.Verdict.{folds}
use Rattle.core_ir.specs.declared.tree.Var.{Var}
use Rattle.core_ir.specs.declared.tree.CoreOp.{CoreOp}
use Rattle.core_ir.specs.declared.tree.CoreOp.TheVariants as making
use Rattle.core_ir.specs.declared.tree.PartedOp.{PartedOp}
use Rattle.core_ir.specs.declared.tree.PartedOp.TheVariants as parted
use Rattle.core_ir.specs.Terms.{PlainTerm, BlockTerm, RightTerm, GensTerm, PartsTerm, FunTerm, CoreTerm, Gives, Bind, Plain, NoGens, Gen, NoParts, Part}
use Rattle.core_ir.specs.Meaning.{extents}
use Rattle.core_ir.specs.Outcome.{param_types, param_vars}
use Rattle.core_ir.specs.Binders.{is_in, bound_in}
use Rattle.core_ir.specs.Scopes.{Scoped}

-- ---- bases of variables

-- the bases of the variables in scope, the newest first
abbrev pub Bases : Type 0
Bases = List (Var × Base)

abbrev pub base_of : Bases → Var → Option Base
base_of [] x = None
base_of (p ∷ ps) x = cond (eqb p.0.0 x.0) (Some p.1) (base_of ps x)

abbrev pub HasBase : Bases → Var → Base → Type 0
HasBase g x t = base_of g x ≡ Some t

abbrev pub HasBases : Bases → List Var → List Base → Type 0
HasBases g [] [] = Unit {0}
HasBases g (x ∷ xs) (t ∷ ts) = HasBase g x t × HasBases g xs ts
HasBases g _ _ = ⊥

abbrev pub AllHave : Bases → List Var → Base → Type 0
AllHave g [] t = Unit {0}
AllHave g (x ∷ xs) t = HasBase g x t × AllHave g xs t

abbrev pub OptionHas : Bases → Option Var → Base → Type 0
OptionHas g None t = Unit {0}
OptionHas g (Some x) t = HasBase g x t

abbrev pub ints : List Var → Bases
ints [] = []
ints (x ∷ xs) = (x, Int) ∷ ints xs

-- ---- operators

-- an operator of one operand, the base that it takes, and the base that it gives
abbrev pub UnaryBase : Op → Base → Base → Type 0
UnaryBase op.Neg t u = (t ≡ Int) × (u ≡ Int)
UnaryBase op.Not t u = (t ≡ Truth) × (u ≡ Truth)
UnaryBase _ t u = ⊥

-- the same of an operator of two operands
abbrev pub BinaryBase : Op → Base → Base → Type 0
BinaryBase op.Neg t u = ⊥
BinaryBase op.Not t u = ⊥
BinaryBase op.Eq t u = u ≡ Truth
BinaryBase op.Ne t u = u ≡ Truth
BinaryBase op.Lt t u = (t ≡ Int) × (u ≡ Truth)
BinaryBase op.Le t u = (t ≡ Int) × (u ≡ Truth)
BinaryBase op.Gt t u = (t ≡ Int) × (u ≡ Truth)
BinaryBase op.Ge t u = (t ≡ Int) × (u ≡ Truth)
BinaryBase op.And t u = (t ≡ Truth) × (u ≡ Truth)
BinaryBase op.Or t u = (t ≡ Truth) × (u ≡ Truth)
BinaryBase _ t u = (t ≡ Int) × (u ≡ Int)

-- ---- right sides

-- an empty literal is of numbers
abbrev pub LiteralBase : Bases → List Var → Base → Type 0
LiteralBase g [] t = t ≡ Int
LiteralBase g (x ∷ xs) t = AllHave g (x ∷ xs) t

-- the bases that a right side without blocks and calls gives; one that always faults gives any
abbrev pub PlainBases : Bases → PlainTerm → List Base → Type 0
PlainBases g (PlainTerm.Const a) ts = IsArray a × IsWellTyped a × (ts ≡ a.base ∷ [])
PlainBases g (PlainTerm.Copy x) ts = (t : Base) × HasBase g x t × (ts ≡ t ∷ [])
PlainBases g (PlainTerm.Unary o x) ts = (u : Base) × ((t : Base) × HasBase g x u × UnaryBase o u t × (ts ≡ t ∷ []))
PlainBases g (PlainTerm.Binary o x y) ts = (u : Base) × ((t : Base) × HasBase g x u × HasBase g y u × BinaryBase o u t × (ts ≡ t ∷ []))
PlainBases g (PlainTerm.Literal xs) ts = (t : Base) × LiteralBase g xs t × (ts ≡ t ∷ [])
PlainBases g (PlainTerm.Dim x) ts = (u : Base) × HasBase g x u × (ts ≡ Int ∷ [])
PlainBases g (PlainTerm.ShapeOf x) ts = (u : Base) × HasBase g x u × (ts ≡ Int ∷ [])
PlainBases g (PlainTerm.Reshape x y) ts = (t : Base) × HasBase g x Int × HasBase g y t × (ts ≡ t ∷ [])
PlainBases g (PlainTerm.Select x y) ts = (t : Base) × HasBase g x t × HasBase g y Int × (ts ≡ t ∷ [])
PlainBases g (PlainTerm.Replace x y z) ts = (t : Base) × HasBase g x t × HasBase g y Int × HasBase g z t × (ts ≡ t ∷ [])
PlainBases g (PlainTerm.Always kind) ts = Unit {0}
PlainBases g (PlainTerm.Check x ty) ts = HasBase g x ty.base × (ts ≡ ty.base ∷ [])

abbrev pub OperationBase : Bases → CoreOp → Base → Type 0
OperationBase g (making.Genarray x y) t = HasBase g x Int × HasBase g y t
OperationBase g (making.Modarray x) t = HasBase g x t
OperationBase g (making.Fold o x) t = HasBase g x t × (folds t o ≡ true)

abbrev pub PartedBase : Bases → PartedOp → Base → Type 0
PartedBase g parted.Genarray t = Unit {0}
PartedBase g (parted.Modarray x) t = HasBase g x t
PartedBase g (parted.Fold o x) t = HasBase g x t × (folds t o ≡ true)

-- ---- frames and parts

abbrev pub part_grids : PartsTerm → List (List Grid1)
part_grids NoParts = []
part_grids (Part h b rest) = h.grid ∷ part_grids rest

-- a frame is a box of at most 16,777,216 indices whose components are of 32 bits
pub record IsFrame (frame : List Grid1) : Type 0 where
  pub rank : length frame ≤ 8
  pub dense : All (λ (axis : Grid1). axis.step ≡ pos 1) frame
  pub most : size (extents frame) ≤ MOST
  pub words : (index : List ℤ) → has_vector frame index ≡ true → All (FitsSigned w32) index

-- no index lies in two grids, and each that lies in one lies in the frame
pub record Fit (frame : List Grid1) (grids : List (List Grid1)) : Type 0 where
  pub apart : AllPairs AreDisjoint grids
  pub inside : All (λ (g : List Grid1). (index : List ℤ) → has_vector g index ≡ true → has_vector frame index ≡ true) grids

-- each index of the frame lies in a grid
abbrev pub Covered : List Grid1 → List (List Grid1) → Type 0
Covered frame grids =
    (index : List ℤ) → has_vector frame index ≡ true → (g : List Grid1) × (Contains grids g × (has_vector g index ≡ true))

-- the frame begins at 0, and with the shape of the cells it is the shape of an array
pub record IsResultFrame (frame : List Grid1) (cell : List ℕ) : Type 0 where
  pub low : All (λ (axis : Grid1). axis.lo ≡ pos 0) frame
  pub high : All (λ (axis : Grid1). IsExtent axis.hi) frame
  pub shape : IsShape (extents frame ++ cell)
  pub most : size (extents frame ++ cell) ≤ MOST

abbrev pub PartedFits : PartedOp → List Grid1 → List ℕ → List (List Grid1) → Type 0
PartedFits (parted.Fold o x) frame cell grids = IsFrame frame × Fit frame grids
PartedFits _ frame cell grids = IsFrame frame × Fit frame grids × Covered frame grids × IsResultFrame frame cell

-- ---- blocks

abbrev pub bases : List ArrayType → List Base
bases ts = map (λ (t : ArrayType). t.base) ts

abbrev pub param_bases : FunTerm → Bases
param_bases f = map (λ (p : Var × ArrayType). (p.0, p.1.base)) f.params

module _ (core : CoreTerm) where
  -- some instance of the group takes and gives these bases
  abbrev pub GroupBases : ℕ → List Base → List Base → Type 0
  GroupBases group takes gives =
      (places : List ℕ) × ((place : ℕ) × ((f : FunTerm) × (
      (slice_get core.groups group ≡ Some places) × Contains places place × (slice_get core.functions place ≡ Some f)
      × (bases (param_types f) ≡ takes) × (bases f.results ≡ gives))))

  -- counts and bases agree
  abbrev mutual
    pub BlockBases : Bases → BlockTerm → List Base → Type 0
    BlockBases g (Gives xs) ts = HasBases g xs ts
    BlockBases g (Bind xs s r b) ts = (us : List Base) × (RightBases g r us × (length xs ≡ length us) × BlockBases (zip xs us ++ g) b ts)

    pub RightBases : Bases → RightTerm → List Base → Type 0
    RightBases g (Plain p) ts = PlainBases g p ts
    RightBases g (RightTerm.If x a b) ts = HasBase g x Truth × BlockBases g a ts × BlockBases g b ts
    RightBases g (RightTerm.Loop first start params test body s) ts =
        HasBases g start ts × (length params ≡ length ts) × BlockBases (zip params ts ++ g) test (Truth ∷ []) × BlockBases (zip params ts ++ g) body ts
    RightBases g (RightTerm.Call group xs) ts = (us : List Base) × (HasBases g xs us × GroupBases group us ts)
    RightBases g (RightTerm.With o gens) ts = (t : Base) × (OperationBase g o t × GensBases g gens t × (ts ≡ t ∷ []))
    RightBases g (RightTerm.Parted frame t cell o parts) ts =
        PartedBase g o t × PartsBases g parts t × PartedFits o frame cell (part_grids parts) × (ts ≡ t ∷ [])

    pub GensBases : Bases → GensTerm → Base → Type 0
    GensBases g NoGens t = Unit {0}
    GensBases g (Gen h b rest) t =
        OptionHas g h.lower Int × OptionHas g h.upper Int × OptionHas g h.step Int × OptionHas g h.width Int
        × BlockBases (ints (h.index ∷ h.names) ++ g) b (t ∷ []) × GensBases g rest t

    pub PartsBases : Bases → PartsTerm → Base → Type 0
    PartsBases g NoParts t = Unit {0}
    PartsBases g (Part h b rest) t = BlockBases ((h.index, Int) ∷ g) b (t ∷ []) × PartsBases g rest t

-- ---- functions and groups

-- each variable stands once in the list
abbrev pub Distinct : List Var → Type 0
Distinct [] = Unit {0}
Distinct (x ∷ xs) = (is_in x xs ≡ false) × Distinct xs

-- the variables of a function are bound once, used where they are in scope, and have agreeing bases
pub record IsFunction (core : CoreTerm) (f : FunTerm) : Type 0 where
  pub once : Distinct (param_vars f ++ bound_in f.body)
  pub scoped : Scoped (param_vars f) f.body
  pub agreeing : BlockBases core (param_bases f) f.body (bases f.results)

-- the groups that a term calls, nested calls included
abbrev mutual
  pub calls_in : BlockTerm → List ℕ
  calls_in (Gives xs) = []
  calls_in (Bind xs s r b) = calls_in_right r ++ calls_in b

  pub calls_in_right : RightTerm → List ℕ
  calls_in_right (Plain p) = []
  calls_in_right (RightTerm.If x a b) = calls_in a ++ calls_in b
  calls_in_right (RightTerm.Loop first start params test body s) = calls_in test ++ calls_in body
  calls_in_right (RightTerm.Call g xs) = g ∷ []
  calls_in_right (RightTerm.With o gens) = calls_in_gens gens
  calls_in_right (RightTerm.Parted f b c o parts) = calls_in_parts parts

  pub calls_in_gens : GensTerm → List ℕ
  calls_in_gens NoGens = []
  calls_in_gens (Gen h b rest) = calls_in b ++ calls_in_gens rest

  pub calls_in_parts : PartsTerm → List ℕ
  calls_in_parts NoParts = []
  calls_in_parts (Part h b rest) = calls_in b ++ calls_in_parts rest

-- two functions may be instances of one name
pub record MayShareName (f g : FunTerm) : Type 0 where
  pub params : length f.params ≡ length g.params
  pub results : length f.results ≡ length g.results
  pub inlines : f.is_inline ≡ g.is_inline
  pub types : compatible (param_types f) (param_types g) ≡ true
  -- equal bases of parameters go with equal bases of results
  pub bases : bases (param_types f) ≡ bases (param_types g) → bases f.results ≡ bases g.results

-- the functions at two places may be instances of one name
abbrev pub PlacesShare : List FunTerm → ℕ → ℕ → Type 0
PlacesShare fs i j = (f g : FunTerm) → slice_get fs i ≡ Some f → slice_get fs j ≡ Some g → MayShareName f g

-- an inline function calls no group that has an inline instance at or after its own place
abbrev pub CallsBackward : CoreTerm → Type 0
CallsBackward core =
    (i : ℕ) (f : FunTerm) → slice_get core.functions i ≡ Some f → f.is_inline ≡ true →
    (group : ℕ) → Contains (calls_in f.body) group →
    (places : List ℕ) → slice_get core.groups group ≡ Some places →
    (j : ℕ) (h : FunTerm) → Contains places j → slice_get core.functions j ≡ Some h → h.is_inline ≡ true → j < i

pub record IsWellFormed (core : CoreTerm) : Type 0 where
  pub few : length core.functions < 2 ^ 32
  pub functions : All (IsFunction core) core.functions
  pub main : (f : FunTerm) × ((slice_get core.functions core.main ≡ Some f) × (f.is_inline ≡ false))
  pub groups : All (λ (places : List ℕ). All (λ place. place < length core.functions) places) core.groups
  pub called : All (λ (f : FunTerm). All (λ group. group < length core.groups) (calls_in f.body)) core.functions
  pub names : All (λ (places : List ℕ). AllPairs (PlacesShare core.functions) places) core.groups
  pub backward : CallsBackward core
