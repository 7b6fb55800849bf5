use Rattle.std.proofs.Common.{◌≡◌, ◌∙◌}
use Rattle.check_rules.specs.Accepted.{with_names, param_names, no_names, names_in_block, names_in_exprs}
use Rattle.sac_ast.specs.View.{block, exprs}
use Rattle.check_rules.specs.Tables.{has, among}
use Rattle.check_rules.proofs.listing.listed.Goals as goal

pub returns : goal.returns
returns c =
    let f = c.args.f.now in
    let start : has c.new-names.result ≡ no_names = λ i other. among (c.new-names.ensures.empty i) other in
    let params = c.in_ok-list_params.ensures ∙ (λ i. with_names (param_names (c.deref.ensures.value i)) (start i)) in
    let body = c.in_ok-list_block.ensures ∙ (λ i. names_in_block (block (c.deref-2.ensures.value i)) (params i)) in
    c.in_ok-list_expressions.ensures ∙ (λ i. names_in_exprs (exprs (c.deref-3.ensures.value i)) (body i))
