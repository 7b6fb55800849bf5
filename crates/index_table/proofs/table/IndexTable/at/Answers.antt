use Rattle.std.proofs.Common.{rules, ◌≡◌, Some, None, ap, ◌∙◌, sym}
use Rattle.fact_table.specs.scoped_table.Notes.{noted}
use Rattle.index_table.specs.Table.{index_or_other, indices_of}
use Rattle.index_table.proofs.NoteFacts.{found}
use Rattle.index_table.proofs.table.IndexTable.at.Goals as goal

pub returns-in-Some : goal.returns-in-Some
returns-in-Some c =
    let t = c.self.inside in
    let here : Some c.in-Some.relation.now ≡ noted t.notes c.args.x = search rules in
    ap index_or_other here ∙ found t.notes c.args.x ∙ ap (λ ns. indices_of ns c.args.x) c.self.view_is

pub returns-in-None : goal.returns-in-None
returns-in-None c =
    let t = c.self.inside in
    let here : None ≡ noted t.notes c.args.x = search rules in
    c.self.invariant ∙ ap index_or_other here ∙ found t.notes c.args.x ∙ ap (λ ns. indices_of ns c.args.x) c.self.view_is
