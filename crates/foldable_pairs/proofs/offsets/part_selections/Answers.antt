use Rattle.std.proofs.Common.{◌≡◌, sym, subst, true}
use Rattle.std.specs.Prelude.{IfOk, IfSome}
use Rattle.core_ir.specs.Terms.{PartTerm}
use Rattle.fact_table.specs.Table.{facts_of}
use Rattle.total_cells.specs.loop_selections.Selecting.{is_selecting}
use Rattle.total_cells.specs.loop_selections.Told.{told}
use Rattle.plain_facts.specs.Called.{shapes_of}
use Rattle.foldable_pairs.specs.Selected.{part_offsets}
use Rattle.foldable_pairs.proofs.PartTrees.{part_out}
use Rattle.foldable_pairs.proofs.offsets.part_selections.Goals as goal

pub returns-clause-some : goal.returns-clause-some
returns-clause-some c =
    subst (λ (t : PartTerm). IfOk c.body_selections.result (λ found. IfSome found (λ all. (is_selecting c.args.producer t.body ≡ true)
    × (told all.items ≡ part_offsets (shapes_of c.args.called.now) (facts_of c.args.facts.now) c.args.producer t))))
    (sym (part_out c.args.part.now)) c.body_selections.ensures.some
