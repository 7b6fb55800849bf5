use Rattle.std.proofs.Common.{◌↔◌, IsTrue, sym, subst}
use Rattle.std.specs.Prelude.{IfOk}
use Rattle.core_ir.specs.Terms.{PartTerm}
use Rattle.fact_table.specs.Table.{facts_of}
use Rattle.plain_facts.specs.Called.{shapes_of}
use Rattle.foldable_pairs.specs.Pairs.{GivesScalar}
use Rattle.foldable_pairs.proofs.PartTrees.{part_out}
use Rattle.foldable_pairs.proofs.producer.is_total.Goals as goal

pub returns-clause-total : goal.returns-clause-total
returns-clause-total c =
    subst (λ (t : PartTerm). IfOk c.is_total_body.result (λ total. IsTrue total
    ↔ GivesScalar (shapes_of c.args.called.now) (facts_of c.args.facts.now) t.head.grid t.head.index t.body))
    (sym (part_out c.args.part.now)) c.is_total_body.ensures.total
