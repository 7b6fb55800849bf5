-- The term of a tree of counted code.
use Rattle.std.specs.Prelude.{List, [], ◌∷◌, map}
use Rattle.core_ir.specs.declared.tree.Var.{Var}
use Rattle.counted_code.specs.declared.tree.CodeBlock.{CodeBlock, Row_of-CodeStep, end_of-CodeStep, more_of-CodeStep}
use Rattle.counted_code.specs.declared.tree.CodeStep.{CodeStep}
use Rattle.counted_code.specs.declared.tree.CodeStep.TheVariants as step
use Rattle.counted_code.specs.declared.tree.CodeRight.{CodeRight}
use Rattle.counted_code.specs.declared.tree.CodeRight.TheVariants as right
use Rattle.counted_code.specs.declared.tree.CodeWith.{CodeWith, CodeWith', Row_of-CodeGen, end_of-CodeGen, more_of-CodeGen}
use Rattle.counted_code.specs.declared.tree.CodeParted.{CodeParted, CodeParted', Row_of-CodePart, end_of-CodePart, more_of-CodePart}
use Rattle.counted_code.specs.declared.tree.CodeFun.{CodeFun}
use Rattle.counted_code.specs.declared.tree.Code.{Code}
use Rattle.core_ir.specs.Terms.{PlainTerm}
use Rattle.counted_code.specs.Terms.{CodeTerm, CodeRightTerm, CodeGensTerm, CodePartsTerm, CodeFunTerm, CodeProgram, Giving, Binding, Keeping}
use Rattle.counted_code.specs.Terms.{Releasing, PlainCode, IfCode, LoopCode, CallCode, WithCode, PartedCode, NoCodeGens, GenCode, NoCodeParts}
use Rattle.counted_code.specs.Terms.{PartCode}

abbrev mutual
  pub steps_term : {n : _} → Row_of-CodeStep n → List Var → CodeTerm
  steps_term end_of-CodeStep results = Giving results
  steps_term (more_of-CodeStep s rest) results = step_term s (steps_term rest results)

  pub step_term : CodeStep → CodeTerm → CodeTerm
  step_term (step.Bind' targets site r) rest = Binding targets.items site (code_right_term r) rest
  step_term (step.Keep x) rest = Keeping x rest
  step_term (step.Release x) rest = Releasing x rest

  pub code_right_term : CodeRight → CodeRightTerm
  code_right_term (right.Const a) = PlainCode (PlainTerm.Const a)
  code_right_term (right.Copy x) = PlainCode (PlainTerm.Copy x)
  code_right_term (right.Unary op x) = PlainCode (PlainTerm.Unary op x)
  code_right_term (right.Binary op x y) = PlainCode (PlainTerm.Binary op x y)
  code_right_term (right.Literal xs) = PlainCode (PlainTerm.Literal xs.items)
  code_right_term (right.Dim x) = PlainCode (PlainTerm.Dim x)
  code_right_term (right.ShapeOf x) = PlainCode (PlainTerm.ShapeOf x)
  code_right_term (right.Reshape x y) = PlainCode (PlainTerm.Reshape x y)
  code_right_term (right.Select x y) = PlainCode (PlainTerm.Select x y)
  code_right_term (right.Replace x y z) = PlainCode (PlainTerm.Replace x y z)
  code_right_term (right.If' c sa a ra sb b rb) = IfCode c (steps_term a ra.items) (steps_term b rb.items)
  code_right_term (right.Loop' first start params st test rt sb body rb test_site) =
      LoopCode first start.items params.items (steps_term test rt.items) (steps_term body rb.items) test_site
  code_right_term (right.Call group args) = CallCode group args.items
  code_right_term (right.With w) = code_with_term w
  code_right_term (right.Parted p) = code_parted_term p
  code_right_term (right.Always k) = PlainCode (PlainTerm.Always k)
  code_right_term (right.Check x t) = PlainCode (PlainTerm.Check x t)

  pub code_with_term : CodeWith → CodeRightTerm
  code_with_term (CodeWith' shape gens op) = WithCode op (code_gens_term gens)

  pub code_gens_term : {n : _} → Row_of-CodeGen n → CodeGensTerm
  code_gens_term end_of-CodeGen = NoCodeGens
  code_gens_term (more_of-CodeGen lower lower_closed upper upper_closed step width index names shape body results site rest) =
      GenCode (record {
        lower = lower;
        lower_closed = lower_closed;
        upper = upper;
        upper_closed = upper_closed;
        step = step;
        width = width;
        index = index;
        names = names.items;
        site = site;
      }) (steps_term body results.items) (code_gens_term rest)

  pub code_parted_term : CodeParted → CodeRightTerm
  code_parted_term (CodeParted' frame base cell op shape parts reuse) = PartedCode frame base cell op (code_parts_term parts) reuse

  pub code_parts_term : {n : _} → Row_of-CodePart n → CodePartsTerm
  code_parts_term end_of-CodePart = NoCodeParts
  code_parts_term (more_of-CodePart grid index shape body results site rest) =
      PartCode (record { grid = grid; index = index; site = site }) (steps_term body results.items) (code_parts_term rest)

abbrev pub steps_before : List CodeStep → CodeTerm → CodeTerm
steps_before [] rest = rest
steps_before (s ∷ ss) rest = step_term s (steps_before ss rest)

abbrev pub code_term : CodeBlock → CodeTerm
code_term b = steps_before b.steps.items (Giving b.results.items)

abbrev pub code_fun_term : CodeFun → CodeFunTerm
code_fun_term f = record {
  name = f.name;
  site = f.site;
  params = f.params.items;
  results = f.results.items;
  is_inline = f.inline;
  body = code_term f.body;
  ends = f.ends;
}

abbrev pub code_program : Code → CodeProgram
code_program c = record { functions = map code_fun_term c.functions.items; groups = map (λ g. g.items) c.groups.items; main = c.main }
