use Rattle.std.proofs.Common.{◌≡◌, ◌+◌, max, ap, sym, ◌∙◌}
use Rattle.sac_ast.specs.Heights.{height, maybe_height, block_height, bound_height, gen_height, capped}
use Rattle.sac_ast.specs.View as view
use Rattle.sac_ast.proofs.Views.{generator_is}
use Rattle.sac_ast.proofs.Capped.{above_six}
use Rattle.sac_ast.proofs.measure.+height.Goals as goal

pub generator-returns : goal.generator-returns
generator-returns t c =
    let g = c.args.g.now in
    let body : c.statements.result ≡ capped (block_height (view.block g.body.items)) = c.statements.ensures ∙ ap (λ l. capped (block_height (view.block l))) c.deref.ensures.value in
    let parts : max c.bound.result (max c.bound-2.result (max c.maybe-2.result (max c.maybe.result (max c.statements.result c.expression.result)))) ≡ max (capped (bound_height (view.bound g.lower))) (max (capped (bound_height (view.bound g.upper))) (max (capped (maybe_height (view.maybe g.step))) (max (capped (maybe_height (view.maybe g.width))) (max (capped (block_height (view.block g.body.items))) (capped (height (view.expr g.cell))))))) = λ i. max (c.bound.ensures i) (max (c.bound-2.ensures i) (max (c.maybe-2.ensures i) (max (c.maybe.ensures i) (max (body i) (c.expression.ensures i))))) in
    let all = ap (λ n. capped (1 + n)) parts ∙ above_six (bound_height (view.bound g.lower)) (bound_height (view.bound g.upper)) (maybe_height (view.maybe g.step)) (maybe_height (view.maybe g.width)) (block_height (view.block g.body.items)) (height (view.expr g.cell)) in
    let whole = ap (λ n. capped (gen_height n)) (sym (generator_is g)) in
    let nested : c.above.result ≡ capped (1 + max c.bound.result (max c.bound-2.result (max c.maybe-2.result (max c.maybe.result (max c.statements.result c.expression.result))))) = c.above.ensures ∙ ap (λ n. capped (1 + n)) (c.max-4.ensures ∙ ap (max c.bound.result) (c.max-3.ensures ∙ ap (max c.bound-2.result) (c.max-2.ensures ∙ ap (max c.maybe-2.result) (c.max-parts.ensures ∙ ap (max c.maybe.result) c.max.ensures)))) in
    nested ∙ all ∙ whole
