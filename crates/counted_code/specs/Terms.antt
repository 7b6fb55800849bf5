-- Counted code as terms, and the core that it is without its steps that keep and release and without its marks.
use Rattle.std.specs.Prelude.{ℕ, Bool, List, map, Option}
use Rattle.sac_base.specs.declared.base.Base.{Base}
use Rattle.sac_base.specs.declared.grid.Grid1.{Grid1}
use Rattle.sac_base.specs.declared.name.Name.{Name}
use Rattle.sac_base.specs.declared.site.Site.{Site}
use Rattle.sac_base.specs.declared.types.ArrayType.{ArrayType}
use Rattle.core_ir.specs.declared.tree.Var.{Var}
use Rattle.core_ir.specs.declared.tree.CoreOp.{CoreOp}
use Rattle.core_ir.specs.declared.tree.PartedOp.{PartedOp}
use Rattle.core_ir.specs.Terms.{PlainTerm, GenHead, PartHead, BlockTerm, RightTerm, GensTerm, PartsTerm, FunTerm, CoreTerm, Gives, Bind, Plain}
use Rattle.core_ir.specs.Terms.{NoGens, Gen, NoParts, Part}

mutual
  -- steps, and at their end the results
  pub data CodeTerm : Type 0 where
    Giving : (results : List Var) → CodeTerm
    Binding : (targets : List Var) (site : Site) (right : CodeRightTerm) (rest : CodeTerm) → CodeTerm
    Keeping : (x : Var) (rest : CodeTerm) → CodeTerm
    Releasing : (x : Var) (rest : CodeTerm) → CodeTerm

  pub data CodeRightTerm : Type 0 where
    PlainCode : (plain : PlainTerm) → CodeRightTerm
    IfCode : (cond : Var) (then_block else_block : CodeTerm) → CodeRightTerm
    LoopCode : (first_body : Bool) (start params : List Var) (test body : CodeTerm) (test_site : Site) → CodeRightTerm
    CallCode : (group : ℕ) (args : List Var) → CodeRightTerm
    WithCode : (op : CoreOp) (gens : CodeGensTerm) → CodeRightTerm
    PartedCode : (frame : List Grid1) (base : Base) (cell : List ℕ) (op : PartedOp) (parts : CodePartsTerm) (reuse : Option Var) → CodeRightTerm

  pub data CodeGensTerm : Type 0 where
    NoCodeGens : CodeGensTerm
    GenCode : (head : GenHead) (body : CodeTerm) (rest : CodeGensTerm) → CodeGensTerm

  pub data CodePartsTerm : Type 0 where
    NoCodeParts : CodePartsTerm
    PartCode : (head : PartHead) (body : CodeTerm) (rest : CodePartsTerm) → CodePartsTerm

-- a function
pub record CodeFunTerm : Type 0 where
  pub name : Name
  pub site : Site
  pub params : List (Var × ArrayType)
  pub results : List ArrayType
  pub is_inline : Bool
  pub body : CodeTerm
  pub ends : Site

-- a program
pub record CodeProgram : Type 0 where
  pub functions : List CodeFunTerm
  pub groups : List (List ℕ)
  pub main : ℕ

-- the core without steps that keep and release, and without marks
abbrev mutual
  pub core_of : CodeTerm → BlockTerm
  core_of (Giving xs) = Gives xs
  core_of (Binding xs s r b) = Bind xs s (core_of_right r) (core_of b)
  core_of (Keeping x b) = core_of b
  core_of (Releasing x b) = core_of b

  pub core_of_right : CodeRightTerm → RightTerm
  core_of_right (PlainCode p) = Plain p
  core_of_right (IfCode c a b) = RightTerm.If c (core_of a) (core_of b)
  core_of_right (LoopCode first start params test body s) = RightTerm.Loop first start params (core_of test) (core_of body) s
  core_of_right (CallCode g xs) = RightTerm.Call g xs
  core_of_right (WithCode op gens) = RightTerm.With op (core_of_gens gens)
  core_of_right (PartedCode f b c op parts reuse) = RightTerm.Parted f b c op (core_of_parts parts)

  pub core_of_gens : CodeGensTerm → GensTerm
  core_of_gens NoCodeGens = NoGens
  core_of_gens (GenCode h b rest) = Gen h (core_of b) (core_of_gens rest)

  pub core_of_parts : CodePartsTerm → PartsTerm
  core_of_parts NoCodeParts = NoParts
  core_of_parts (PartCode h b rest) = Part h (core_of b) (core_of_parts rest)

abbrev pub core_of_fun : CodeFunTerm → FunTerm
core_of_fun f = record { name = f.name; site = f.site; params = f.params; results = f.results; is_inline = f.is_inline; body = core_of f.body; ends = f.ends }

-- the core of a program
abbrev pub core_of_code : CodeProgram → CoreTerm
core_of_code c = record { functions = map core_of_fun c.functions; groups = c.groups; main = c.main }
