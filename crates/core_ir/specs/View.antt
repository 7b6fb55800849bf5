-- The term of a tree of the code.
use Rattle.std.specs.Prelude.{List, map}
use Rattle.core_ir.specs.declared.tree.Var.{Var}
use Rattle.core_ir.specs.declared.tree.Block.{Block, Block', Row_of-Let, end_of-Let, more_of-Let}
use Rattle.core_ir.specs.declared.tree.Let.{Let}
use Rattle.core_ir.specs.declared.tree.Right.{Right}
use Rattle.core_ir.specs.declared.tree.Right.TheVariants as right
use Rattle.core_ir.specs.declared.tree.WithLoop.{WithLoop, WithLoop', Row_of-CoreGen, end_of-CoreGen, more_of-CoreGen}
use Rattle.core_ir.specs.declared.tree.PartedLoop.{PartedLoop, PartedLoop', Row_of-CorePart, end_of-CorePart, more_of-CorePart}
use Rattle.core_ir.specs.declared.tree.CoreGen.{CoreGen, CoreGen'}
use Rattle.core_ir.specs.declared.tree.CorePart.{CorePart, CorePart'}
use Rattle.core_ir.specs.declared.tree.CoreFun.{CoreFun}
use Rattle.core_ir.specs.declared.tree.Core.{Core}
use Rattle.core_ir.specs.Terms.{PlainTerm, BlockTerm, RightTerm, GensTerm, PartsTerm, LetTerm, GenTerm, PartTerm, FunTerm, CoreTerm, Gives, Bind}
use Rattle.core_ir.specs.Terms.{Plain, NoGens, Gen, NoParts, Part}

abbrev mutual
  pub block_term : Block → BlockTerm
  block_term (Block' shape lets results) = lets_term lets results.items

  pub lets_term : {n : _} → Row_of-Let n → List Var → BlockTerm
  lets_term end_of-Let results = Gives results
  lets_term (more_of-Let targets site r rest) results = Bind targets.items site (right_term r) (lets_term rest results)

  pub right_term : Right → RightTerm
  right_term (right.Const a) = Plain (PlainTerm.Const a)
  right_term (right.Copy x) = Plain (PlainTerm.Copy x)
  right_term (right.Unary op x) = Plain (PlainTerm.Unary op x)
  right_term (right.Binary op x y) = Plain (PlainTerm.Binary op x y)
  right_term (right.Literal xs) = Plain (PlainTerm.Literal xs.items)
  right_term (right.Dim x) = Plain (PlainTerm.Dim x)
  right_term (right.ShapeOf x) = Plain (PlainTerm.ShapeOf x)
  right_term (right.Reshape x y) = Plain (PlainTerm.Reshape x y)
  right_term (right.Select x y) = Plain (PlainTerm.Select x y)
  right_term (right.Replace x y z) = Plain (PlainTerm.Replace x y z)
  right_term (right.If c a b) = RightTerm.If c (block_term a) (block_term b)
  right_term (right.Loop first start params test body test_site) =
      RightTerm.Loop first start.items params.items (block_term test) (block_term body) test_site
  right_term (right.Call group args) = RightTerm.Call group args.items
  right_term (right.With w) = with_term w
  right_term (right.Parted p) = parted_term p
  right_term (right.Always k) = Plain (PlainTerm.Always k)
  right_term (right.Check x t) = Plain (PlainTerm.Check x t)

  pub with_term : WithLoop → RightTerm
  with_term (WithLoop' shape gens op) = RightTerm.With op (gens_term gens)

  pub gens_term : {n : _} → Row_of-CoreGen n → GensTerm
  gens_term end_of-CoreGen = NoGens
  gens_term (more_of-CoreGen (CoreGen' lower lower_closed upper upper_closed step width index names body site) rest) =
      Gen (record {
        lower = lower;
        lower_closed = lower_closed;
        upper = upper;
        upper_closed = upper_closed;
        step = step;
        width = width;
        index = index;
        names = names.items;
        site = site;
      }) (block_term body) (gens_term rest)

  pub parted_term : PartedLoop → RightTerm
  parted_term (PartedLoop' frame base cell op shape parts) = RightTerm.Parted frame base cell op (parts_term parts)

  pub parts_term : {n : _} → Row_of-CorePart n → PartsTerm
  parts_term end_of-CorePart = NoParts
  parts_term (more_of-CorePart (CorePart' grid index body site) rest) =
      Part (record { grid = grid; index = index; site = site }) (block_term body) (parts_term rest)

abbrev pub let_term : Let → LetTerm
let_term l = record { targets = l.targets.items; site = l.site; right = right_term l.right }

abbrev pub gen_term : CoreGen → GenTerm
gen_term (CoreGen' lower lower_closed upper upper_closed step width index names body site) =
    record {
      head = record {
        lower = lower;
        lower_closed = lower_closed;
        upper = upper;
        upper_closed = upper_closed;
        step = step;
        width = width;
        index = index;
        names = names.items;
        site = site;
      };
      body = block_term body;
    }

abbrev pub part_term : CorePart → PartTerm
part_term (CorePart' grid index body site) = record { head = record { grid = grid; index = index; site = site }; body = block_term body }

abbrev pub fun_term : CoreFun → FunTerm
fun_term f = record {
  name = f.name;
  site = f.site;
  params = f.params.items;
  results = f.results.items;
  is_inline = f.inline;
  body = block_term f.body;
  ends = f.ends;
}

abbrev pub core_term : Core → CoreTerm
core_term c = record { functions = map fun_term c.functions.items; groups = map (λ g. g.items) c.groups.items; main = c.main }
