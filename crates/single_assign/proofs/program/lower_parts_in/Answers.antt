use Rattle.std.proofs.Common.{ap, ◌∙◌}
use Rattle.sac_ast.specs.View.{function, block, exprs}
use Rattle.core_ir.specs.View.{block_term}
use Rattle.core_lowering.specs.steps.Functions.{params_declared}
use Rattle.core_scopes.specs.Looks.{look}
use Rattle.core_scopes.specs.Built.{built}
use Rattle.single_assign.specs.Views.{make_block_in, make_all_in}
use Rattle.single_assign.proofs.Whole.{function_ends}
use Rattle.single_assign.proofs.program.lower_parts_in.Goals as goal

pub returns : goal.returns
returns c =
    let cx = c.args.cx.now in
    let start = look c.args.scope.now in
    let s = built c.new-out.result in
    let s1 = built c.lower_params.new.out in
    let s2 = built c.lower_block.new.out in
    let l1 = look c.lower_params.new.scope in
    let l2 = look c.lower_block.new.scope in
    let p = c.in_ok-params.ensures ∙ ap (λ ps. params_declared ps start s) c.deref.ensures.value in
    let b = c.in_ok-lower_block.ensures ∙ ap (λ ss. make_block_in cx (block ss) l1 s1) c.deref-2.ensures.value in
    let v = c.in_ok-values.ensures ∙ ap (λ es. make_all_in cx (exprs es) l2 s2) c.deref-3.ensures.value in
    function_ends cx (function c.args.f.now) start l1 l2 s s1 s2 (built c.lower_all.new.out) c.in_ok-params.params.items c.in_ok-values.values.items (block_term c.finish.result) c.new-out.ensures p b v c.finish.ensures
