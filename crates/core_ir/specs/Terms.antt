-- The core as terms: what the trees of the code are, wherever their lists lie in memory.
use Rattle.std.specs.Prelude.{ℕ, Bool, List, [], ◌∷◌, Option}
use Rattle.sac_base.specs.declared.base.Base.{Base}
use Rattle.sac_base.specs.declared.faults.FaultKind.{FaultKind}
use Rattle.sac_base.specs.declared.grid.Grid1.{Grid1}
use Rattle.sac_base.specs.declared.name.Name.{Name}
use Rattle.sac_base.specs.declared.op.Op.{Op}
use Rattle.sac_base.specs.declared.site.Site.{Site}
use Rattle.sac_base.specs.declared.types.ArrayType.{ArrayType}
use Rattle.sac_base.specs.Arrays.{ArrayValue}
use Rattle.core_ir.specs.declared.tree.Var.{Var}
use Rattle.core_ir.specs.declared.tree.CoreOp.{CoreOp}
use Rattle.core_ir.specs.declared.tree.PartedOp.{PartedOp}

-- a right side without blocks and calls
pub data PlainTerm : Type 0 where
  Const : (array : ArrayValue) → PlainTerm
  Copy : (x : Var) → PlainTerm
  Unary : (op : Op) (x : Var) → PlainTerm
  Binary : (op : Op) (x y : Var) → PlainTerm
  Literal : (xs : List Var) → PlainTerm
  Dim : (x : Var) → PlainTerm
  ShapeOf : (x : Var) → PlainTerm
  Reshape : (x y : Var) → PlainTerm
  Select : (x y : Var) → PlainTerm
  Replace : (x y z : Var) → PlainTerm
  Always : (kind : FaultKind) → PlainTerm
  Check : (x : Var) (type : ArrayType) → PlainTerm

-- all of a generator but its body
pub record GenHead : Type 0 where
  pub lower : Option Var
  pub lower_closed : Bool
  pub upper : Option Var
  pub upper_closed : Bool
  pub step : Option Var
  pub width : Option Var
  pub index : Var
  pub names : List Var
  pub site : Site

-- all of a part but its body
pub record PartHead : Type 0 where
  pub grid : List Grid1
  pub index : Var
  pub site : Site

mutual
  -- bindings, and at their end the results
  pub data BlockTerm : Type 0 where
    Gives : (results : List Var) → BlockTerm
    Bind : (targets : List Var) (site : Site) (right : RightTerm) (rest : BlockTerm) → BlockTerm

  pub data RightTerm : Type 0 where
    Plain : (plain : PlainTerm) → RightTerm
    If : (cond : Var) (then_block else_block : BlockTerm) → RightTerm
    Loop : (first_body : Bool) (start params : List Var) (test body : BlockTerm) (test_site : Site) → RightTerm
    Call : (group : ℕ) (args : List Var) → RightTerm
    With : (op : CoreOp) (gens : GensTerm) → RightTerm
    Parted : (frame : List Grid1) (base : Base) (cell : List ℕ) (op : PartedOp) (parts : PartsTerm) → RightTerm

  pub data GensTerm : Type 0 where
    NoGens : GensTerm
    Gen : (head : GenHead) (body : BlockTerm) (rest : GensTerm) → GensTerm

  pub data PartsTerm : Type 0 where
    NoParts : PartsTerm
    Part : (head : PartHead) (body : BlockTerm) (rest : PartsTerm) → PartsTerm

-- a function
pub record FunTerm : Type 0 where
  pub name : Name
  pub site : Site
  pub params : List (Var × ArrayType)
  pub results : List ArrayType
  pub is_inline : Bool
  pub body : BlockTerm
  pub ends : Site

-- a program
pub record CoreTerm : Type 0 where
  pub functions : List FunTerm
  pub groups : List (List ℕ)
  pub main : ℕ

-- a binding alone
pub record LetTerm : Type 0 where
  pub targets : List Var
  pub site : Site
  pub right : RightTerm

-- a generator, and a part, alone
pub record GenTerm : Type 0 where
  pub head : GenHead
  pub body : BlockTerm

pub record PartTerm : Type 0 where
  pub head : PartHead
  pub body : BlockTerm

-- a block of these bindings
abbrev pub chain : List LetTerm → BlockTerm → BlockTerm
chain [] rest = rest
chain (l ∷ ls) rest = Bind l.targets l.site l.right (chain ls rest)

abbrev pub gens_of : List GenTerm → GensTerm
gens_of [] = NoGens
gens_of (g ∷ gs) = Gen g.head g.body (gens_of gs)

abbrev pub parts_of : List PartTerm → PartsTerm
parts_of [] = NoParts
parts_of (p ∷ ps) = Part p.head p.body (parts_of ps)
