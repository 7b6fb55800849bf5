use Rattle.std.proofs.Common.{◌≡◌, ◌-◌, length, ap, ◌∙◌}
use Rattle.std.specs.Prelude.{drop}
use Rattle.index_table.specs.Table.{index_note}
use Rattle.std.specs.Prelude.{map}
use Rattle.index_table.proofs.NoteFacts.{undone}
use Rattle.index_table.proofs.table.IndexTable.undo.Goals as goal

pub returns : goal.returns
returns c =
    let t = c.self.inside in
    ap (map index_note) c.undo.ensures ∙ undone c.args.mark t.notes ∙ ap (λ ns. drop (length ns - c.args.mark) ns) c.self.view_is
