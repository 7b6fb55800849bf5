-- What is known of a with-loop before its cells.
use Rattle.std.specs.Prelude.{◌≡◌, ◌⊎◌, ◌++◌, ◌≤◌, ◌≤ℤ◌, ℕ, true, List, [], ◌∷◌, All, map, length, pos, negsuc, Ok, Some}
use Rattle.sac_base.specs.declared.base.Base.{Base}
use Rattle.sac_base.specs.declared.grid.Grid1.{Grid1}
use Rattle.sac_base.specs.declared.site.Site.{Site}
use Rattle.sac_base.specs.Arrays.{size, MOST}
use Rattle.sac_base.specs.WithLoops.{Bounds, Operation, Plan, box, names_fit, plan}
use Rattle.core_ir.specs.declared.tree.CoreOp.{CoreOp}
use Rattle.core_ir.specs.declared.tree.CoreOp.TheVariants as making
use Rattle.core_ir.specs.Meaning.{extents}
use Rattle.core_ir.specs.Terms.{GensTerm}
use Rattle.core_ir.specs.WellFormed.{IsFrame, IsResultFrame}
use Rattle.core_facts.specs.Facts.{Facts}
use Rattle.core_loops.specs.Loops.{AllLiteral, KnownOperation}
use Rattle.partable_loops.specs.declared.framing.Framed.{Framed}
use Rattle.core_loops.specs.Loops.{grid_range, spanned, frame_spans}

-- a frame without an index
abbrev pub IsVoid : List Grid1 → Type 0
IsVoid frame = grid_range frame ≡ spanned (record { low = pos 0; extent = 0 }) ∷ []

-- an array has the frame's extents, and those of a cell
abbrev pub IsWhole : CoreOp → Plan → Framed → Type 0
IsWhole (making.Genarray x y) p f = p.shape ≡ extents f.frame ++ f.cell
IsWhole (making.Modarray x) p f = p.shape ≡ extents f.frame ++ f.cell
IsWhole (making.Fold o x) p f = Unit {0}

-- an axis whose numbers have 32 bits
pub record IsWordAxis (a : Grid1) : Type 0 where
  pub least : negsuc 2147483647 ≤ℤ a.lo
  pub most : a.hi ≤ℤ pos 2147483648

-- an array of the frame's cells may be
abbrev pub IsResult : CoreOp → List Grid1 → List ℕ → Type 0
IsResult (making.Genarray x y) frame cell = IsResultFrame frame cell
IsResult (making.Modarray x) frame cell = IsResultFrame frame cell
IsResult (making.Fold o x) frame cell = Unit {0}

-- a modarray's array has no more elements than an array may have
abbrev pub MayStand : Facts → CoreOp → Type 0
MayStand k (making.Genarray x y) = Unit {0}
MayStand k (making.Modarray x) = (shape : List ℕ) × (((k x).shape ≡ Some shape) × (size shape ≤ MOST))
MayStand k (making.Fold o x) = Unit {0}

-- the names of each generator are as many as the axes of its grid
abbrev pub NamesFitGrids : List Bounds → List (List Grid1) → Type 0
NamesFitGrids [] [] = Unit {0}
NamesFitGrids (b ∷ bs) (g ∷ gs) = (names_fit (length g) b.names ≡ true) × NamesFitGrids bs gs
NamesFitGrids _ _ = ⊥

-- There is a plan, and this is its frame, its grids and its cell.
pub record FramesPlan (base : Base) (op : CoreOp) (bounds : List Bounds) (operation : Operation) (f : Framed) : Type 0 where
  pub planned : Plan
  pub valid : plan bounds operation ≡ Ok planned
  pub count : length planned.ranges ≡ length bounds
  pub cut : map grid_range f.grids.items ≡ planned.ranges
  pub spans : grid_range f.frame ≡ map spanned (frame_spans op planned)
  pub indices : planned.indices ≡ box (frame_spans op planned)
  pub form : planned.form ≡ record { base = base; shape = f.cell }
  pub ranks : All (λ g. length g ≡ length f.frame) f.grids.items ⊎ IsVoid f.frame
  pub whole : IsWhole op planned f
  pub frame : IsFrame f.frame
  pub result : IsResult op f.frame f.cell
  pub names : NamesFitGrids bounds f.grids.items

-- the shape that is known
abbrev pub HasKnown : Facts → CoreOp → Plan → Framed → Type 0
HasKnown k (making.Genarray x y) p f = (k y).shape ≡ Some f.cell
HasKnown k (making.Modarray x) p f = (k x).shape ≡ Some p.shape
HasKnown k (making.Fold o x) p f = (k x).shape ≡ Some f.cell

-- The same under facts.
pub record FramesKnown (k : Facts) (s : Site) (op : CoreOp) (base : Base) (bounds : List Bounds) (f : Framed) : Type 0 where
  pub operation : Operation
  pub known : KnownOperation k s base op operation
  pub frames : FramesPlan base op bounds operation f
  pub shape : HasKnown k op frames.planned f

-- some bounds are literal
abbrev pub HasBounds : Facts → GensTerm → Type 0
HasBounds k gens = (bounds : List Bounds) × AllLiteral k gens bounds

-- some operation has a plan, on arrays that may be
abbrev pub HasPlan : Facts → CoreOp → List Bounds → Type 0
HasPlan k op bounds = (s : Site) × ((base : Base) × ((operation : Operation) × ((planned : Plan) ×
    (KnownOperation k s base op operation × (plan bounds operation ≡ Ok planned) × MayStand k op))))
