use Rattle.std.proofs.Common.{rules, ◌≡◌, Some, None, ap, ◌∙◌}
use Rattle.fact_table.specs.scoped_table.Notes.{noted}
use Rattle.reuse_candidates.specs.Tables.{base_noted}
use Rattle.reuse_candidates.proofs.BaseNotes.{found}
use Rattle.reuse_candidates.proofs.bases.base_at.Goals as goal

pub returns-in-Some : goal.returns-in-Some
returns-in-Some c =
    let here : Some c.in-Some.base.now ≡ noted c.args.table.now c.args.x = search rules in
    ap base_noted here ∙ found c.args.table.now c.args.x

pub returns-in-None : goal.returns-in-None
returns-in-None c =
    let here : None ≡ noted c.args.table.now c.args.x = search rules in
    ap base_noted here ∙ found c.args.table.now c.args.x
