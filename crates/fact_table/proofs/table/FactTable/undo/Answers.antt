use Rattle.std.proofs.Common.{◌≡◌, ◌-◌, length, ap, ◌∙◌}
use Rattle.std.specs.Prelude.{drop}
use Rattle.fact_table.specs.Table.{fact_note}
use Rattle.std.specs.Prelude.{map}
use Rattle.fact_table.proofs.NoteFacts.{undone}
use Rattle.fact_table.proofs.table.FactTable.undo.Goals as goal

pub returns : goal.returns
returns c =
    let t = c.self.inside in
    ap (map fact_note) c.undo.ensures ∙ undone c.args.mark t.notes ∙ ap (λ ns. drop (length ns - c.args.mark) ns) c.self.view_is
