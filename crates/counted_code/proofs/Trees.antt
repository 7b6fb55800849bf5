-- The term of a tree of counted code, by the lists that its vectors hold.
use Rattle.std.proofs.Common.{◌≡◌, Bool, List, [], ◌∷◌, ◌++◌, refl, ap, ◌∙◌, sym, Vec, Global}
use Rattle.sac_base.specs.declared.site.Site.{Site}
use Rattle.core_ir.specs.declared.tree.Var.{Var}
use Rattle.counted_code.specs.declared.tree.CodeBlock.{CodeBlock, Row_of-CodeStep, end_of-CodeStep, more_of-CodeStep, items-the_row-CodeStep, items_shown-the_row-CodeStep-0, items_hidden-the_row-CodeStep-0}
use Rattle.counted_code.specs.declared.tree.CodeRight.TheBlock.{the_data, the_data-1, the_data-2, the_data-3, the_data-4, the_data-5, the_data-6, the_data-7, hidden-the_row-CodeStep-0}
use Rattle.counted_code.specs.declared.tree.CodeRight.TheVariants as right
use Rattle.counted_code.specs.declared.tree.CodeWith.{CodeWith, CodeWith', CodeWith-F, out-CodeWith, roll-CodeWith, out-roll-CodeWith, outs-CodeWith', Row_of-CodeGen, end_of-CodeGen, more_of-CodeGen, items-the_row-CodeGen, items_shown-the_row-CodeGen-2}
use Rattle.counted_code.specs.declared.tree.CodeParted.{CodeParted, CodeParted', CodeParted-F, out-CodeParted, roll-CodeParted, out-roll-CodeParted, outs-CodeParted', Row_of-CodePart, end_of-CodePart, more_of-CodePart, items-the_row-CodePart, items_shown-the_row-CodePart-1}
use Rattle.counted_code.specs.declared.tree.CodeStep.{CodeStep}
use Rattle.counted_code.specs.Terms.{CodeTerm, Giving, IfCode, LoopCode, WithCode, PartedCode, GenCode, PartCode}
use Rattle.counted_code.specs.View.{code_term, code_right_term, steps_before, steps_term, step_term, code_with_term, code_gens_term, code_parted_term, code_parts_term}
use Rattle.counted_code.specs.Pieces.{gens_term, parts_term}

pub steps_items : {n : _} → (k : Row_of-CodeStep n) (rs : List Var) → steps_term k rs ≡ steps_before (items-the_row-CodeStep n k) (Giving rs)
steps_items end_of-CodeStep rs = refl
steps_items (more_of-CodeStep s rest) rs = ap (step_term s) (steps_items rest rs)

pub steps_append : (xs ys : List CodeStep) (t : CodeTerm) → steps_before (xs ++ ys) t ≡ steps_before xs (steps_before ys t)
steps_append [] ys t = refl
steps_append (x ∷ xs) ys t = ap (step_term x) (steps_append xs ys t)

pub block_hidden : (b : CodeBlock) → steps_term (hidden-the_row-CodeStep-0 b.steps) b.results.items ≡ code_term b
block_hidden b = steps_items (hidden-the_row-CodeStep-0 b.steps) b.results.items ∙ ap (λ ss. steps_before ss (Giving b.results.items)) (items_hidden-the_row-CodeStep-0 b.steps)

pub if_term : (c : Var) (a b : CodeBlock) → code_right_term (right.If c a b) ≡ IfCode c (code_term a) (code_term b)
if_term c a b = λ i. IfCode c (block_hidden a i) (block_hidden b i)

pub loop_term : (first : Bool) (start params : Vec Var Global) (test body : CodeBlock) (s : Site) → code_right_term (right.Loop first start params test body s) ≡ LoopCode first start.items params.items (code_term test) (code_term body) s
loop_term first start params test body s = λ i. LoopCode first start.items params.items (block_hidden test i) (block_hidden body i) s

gens_items : {n : _} → (k : Row_of-CodeGen n) → code_gens_term k ≡ gens_term (items-the_row-CodeGen n k)
gens_items end_of-CodeGen = refl
gens_items (more_of-CodeGen lower lower_closed upper upper_closed step width index names shape body results site rest) =
    λ i. GenCode (record { lower = lower; lower_closed = lower_closed; upper = upper; upper_closed = upper_closed; step = step; width = width; index = index; names = names.items; site = site })
    ((steps_items body results.items ∙ ap (λ ss. steps_before ss (Giving results.items)) (sym (items_shown-the_row-CodeStep-0 shape body))) i)
    (gens_items rest i)

parts_items : {n : _} → (k : Row_of-CodePart n) → code_parts_term k ≡ parts_term (items-the_row-CodePart n k)
parts_items end_of-CodePart = refl
parts_items (more_of-CodePart grid index shape body results site rest) =
    λ i. PartCode (record { grid = grid; index = index; site = site })
    ((steps_items body results.items ∙ ap (λ ss. steps_before ss (Giving results.items)) (sym (items_shown-the_row-CodeStep-0 shape body))) i)
    (parts_items rest i)

pub with_out : (w : CodeWith) → code_with_term w ≡ WithCode (out-CodeWith w).op (gens_term (out-CodeWith w).gens.items)
with_out (CodeWith' shape row op) =
    ap (WithCode op) (gens_items row) ∙ ap (λ ls. WithCode op (gens_term ls)) (sym (items_shown-the_row-CodeGen-2 shape row)) ∙ ap (λ x. WithCode x.op (gens_term x.gens.items)) (sym (outs-CodeWith' shape row op))

pub with_roll : (x : CodeWith-F the_data the_data-1 the_data-2 the_data-3 the_data-4 the_data-5 the_data-6 the_data-7) → code_with_term (roll-CodeWith x) ≡ WithCode x.op (gens_term x.gens.items)
with_roll x = with_out (roll-CodeWith x) ∙ ap (λ y. WithCode y.op (gens_term y.gens.items)) (out-roll-CodeWith x)

pub parted_out : (p : CodeParted) → code_parted_term p ≡ PartedCode (out-CodeParted p).frame (out-CodeParted p).base (out-CodeParted p).cell (out-CodeParted p).op (parts_term (out-CodeParted p).parts.items) (out-CodeParted p).reuse
parted_out (CodeParted' frame base cell op shape row reuse) =
    ap (λ ps. PartedCode frame base cell op ps reuse) (parts_items row) ∙ ap (λ ls. PartedCode frame base cell op (parts_term ls) reuse) (sym (items_shown-the_row-CodePart-1 shape row)) ∙ ap (λ x. PartedCode x.frame x.base x.cell x.op (parts_term x.parts.items) x.reuse) (sym (outs-CodeParted' frame base cell op shape row reuse))

pub parted_roll : (x : CodeParted-F the_data the_data-1 the_data-2 the_data-3 the_data-4 the_data-5 the_data-6 the_data-7) → code_parted_term (roll-CodeParted x) ≡ PartedCode x.frame x.base x.cell x.op (parts_term x.parts.items) x.reuse
parted_roll x = parted_out (roll-CodeParted x) ∙ ap (λ y. PartedCode y.frame y.base y.cell y.op (parts_term y.parts.items) y.reuse) (out-roll-CodeParted x)
