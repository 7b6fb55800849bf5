use Rattle.std.proofs.Common.{rules, ◌≡◌, Some, None, ap, ◌∙◌}
use Rattle.std.specs.Prelude.{unwrap_or}
use Rattle.fact_table.specs.scoped_table.Notes.{noted}
use Rattle.copy_propagation.specs.Table.{source_in}
use Rattle.copy_propagation.proofs.NoteFacts.{found}
use Rattle.copy_propagation.proofs.sources.Sources.source.Goals as goal

pub returns-in-Some : goal.returns-in-Some
returns-in-Some c =
    let t = c.self.inside in
    let here : Some c.in-Some.source.now ≡ noted t.notes c.args.x = search rules in
    ap (λ o. unwrap_or o c.args.x) here ∙ found t.notes c.args.x ∙ ap (λ ns. source_in ns c.args.x) c.self.view_is

pub returns-in-None : goal.returns-in-None
returns-in-None c =
    let t = c.self.inside in
    let here : None ≡ noted t.notes c.args.x = search rules in
    ap (λ o. unwrap_or o c.args.x) here ∙ found t.notes c.args.x ∙ ap (λ ns. source_in ns c.args.x) c.self.view_is
