use Rattle.std.proofs.Common.{◌-◌, length, ap, ◌∙◌}
use Rattle.std.specs.Prelude.{drop}
use Rattle.copy_propagation.specs.Table.{source_note}
use Rattle.std.specs.Prelude.{map}
use Rattle.copy_propagation.proofs.NoteFacts.{undone}
use Rattle.copy_propagation.proofs.sources.Sources.undo.Goals as goal

pub returns : goal.returns
returns c =
    let t = c.self.inside in
    ap (map source_note) c.undo.ensures ∙ undone c.args.mark t.notes ∙ ap (λ ns. drop (length ns - c.args.mark) ns) c.self.view_is
