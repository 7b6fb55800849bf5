use Rattle.std.proofs.Common.{◌≡◌, sym, subst, map}
use Rattle.std.specs.Prelude.{IfOk}
use Rattle.core_ir.specs.Terms.{PartTerm}
use Rattle.core_ir.specs.View.{let_term}
use Rattle.fact_table.specs.Table.{facts_of}
use Rattle.plain_facts.specs.Called.{shapes_of}
use Rattle.merge_plans.specs.scalarisable.Around.{are_total}
use Rattle.merge_plans.proofs.Parts.{part_out}
use Rattle.merge_plans.proofs.judging.is_passed.Goals as goal

pub returns-clause-total : goal.returns-clause-total
returns-clause-total c =
    subst (λ (p : PartTerm). IfOk c.are_passed.result (λ total. total
    ≡ are_total (shapes_of c.args.called.now) p.head.grid (facts_of c.args.facts.now) p.head.index (map let_term c.args.nest.now.before.now) (map let_term c.args.nest.now.after.now)))
    (sym (part_out c.args.part.now)) c.are_passed.ensures.total
