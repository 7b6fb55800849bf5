use Rattle.std.proofs.Common.{◌≡◌, ◌∙◌}
use Rattle.fact_table.proofs.scoped_table.Marks.{one_earlier}
use Rattle.reuse_candidates.specs.Cells.{undone}
use Rattle.reuse_candidates.proofs.cells.CellScope.enter_gen.Goals as goal

pub returns-clause-behind : goal.returns-clause-behind
returns-clause-behind c =
    let indices = one_earlier _ c.args.self.now.indices c.learn.new.self c.forget_relations.new.indices c.in_ok-learn.ensures.learned c.in_ok-forget_relations.ensures.behind in
    (λ i. undone (c.mark-before.ensures i) (record { facts = c.forget_index.new.table; indices = c.forget_relations.new.indices }))
    ∙ (λ i. record { facts = c.in_ok-forget_index.ensures.behind i; indices = indices i })
