use Rattle.std.proofs.Common.{rules, ◌-◌, ◌<◌, List, length, ap, ◌∙◌, arith}
use Rattle.std.specs.Prelude.{drop}
use Rattle.std.proofs.lemmas.Bool.Decides.{nat_tests}
use Rattle.fact_table.proofs.scoped_table.NoteFacts.{one_gone}
use Rattle.fact_table.proofs.scoped_table.table.ScopedTable.undo.Goals as goal

pub loop-self-preserved : goal.loop-self-preserved
loop-self-preserved g c =
    let more : c.args.mark < length c.loop-self.self = first_of (search rules, grind (arith, nat_tests, c.mark.ensures, c.loop-self-test.true)) in
    ap (λ ns. drop (length ns - c.args.mark) ns) c.undo_last.ensures
    ∙ one_gone c.loop-self.self c.args.mark more
    ∙ c.loop-self.invariant
