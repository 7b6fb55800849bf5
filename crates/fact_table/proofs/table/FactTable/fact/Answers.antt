use Rattle.std.proofs.Common.{rules, ◌≡◌, Some, None, ap, ◌∙◌, sym}
use Rattle.fact_table.specs.scoped_table.Notes.{noted}
use Rattle.fact_table.specs.Table.{fact_or_none, facts_of}
use Rattle.fact_table.proofs.NoteFacts.{found}
use Rattle.fact_table.proofs.table.FactTable.fact.Goals as goal

pub returns-in-Some : goal.returns-in-Some
returns-in-Some c =
    let t = c.self.inside in
    let here : Some c.in-Some.known.now ≡ noted t.notes c.args.x = search rules in
    ap fact_or_none here ∙ found t.notes c.args.x ∙ ap (λ ns. facts_of ns c.args.x) c.self.view_is

pub returns-in-None : goal.returns-in-None
returns-in-None c =
    let t = c.self.inside in
    let here : None ≡ noted t.notes c.args.x = search rules in
    c.self.invariant ∙ ap fact_or_none here ∙ found t.notes c.args.x ∙ ap (λ ns. facts_of ns c.args.x) c.self.view_is
