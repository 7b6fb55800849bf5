use Rattle.std.proofs.Common.{◌≡◌, ◌∙◌}
use Rattle.core_ir.specs.View.{right_term}
use Rattle.core_loops.specs.Indices.{learn_index}
use Rattle.counted_code.specs.Terms.{core_of_right}
use Rattle.counted_code.specs.View.{code_right_term}
use Rattle.fact_table.specs.Table.{facts_of}
use Rattle.index_table.specs.Table.{indices_of}
use Rattle.reuse_candidates.proofs.OwnTurns.{if_done}
use Rattle.reuse_candidates.proofs.Plains.{learns_plain}
use Rattle.reuse_candidates.proofs.cells.CellScope.learn_relation.Goals as goal

pub returns-clause-learned : goal.returns-clause-learned
returns-clause-learned c =
    let n = c.args.axes in
    let k = facts_of c.args.self.now.facts in
    let m = indices_of c.args.self.now.indices in
    let xs = c.args.binding.now.targets.items in
    let r = core_of_right (code_right_term c.args.binding.now.right) in
    let new = indices_of c.learn_relation.new.indices in
    if_done (new ≡ learn_index n m c.deref.result.now (right_term c.in_ok-right.right) k) (new ≡ learn_index n m xs r k) c.learn_relation.result
    (λ e. e ∙ (λ i. learn_index n m (c.deref.ensures.value i) (c.in_ok-right.ensures i) k) ∙ learns_plain n m xs r k) c.learn_relation.ensures.learned
