use Rattle.std.proofs.Common.{rules, ◌<◌, ◌+◌, None, false, ap, ◌∙◌, length, drop}
use Rattle.check_rules.specs.First.{earlier}
use Rattle.check_rules.specs.Walk.{cell_rules}
use Rattle.check_rules.proofs.Lists.{cells_step}
use Rattle.check_rules.proofs.uses.cell_rules.Goals as goal

pub loop-cell-preserved : goal.loop-cell-preserved
loop-cell-preserved c =
    let cs = c.args.cells.now in
    let k = c.loop-cell.cell-index in
    let below : k < length cs = search rules in
    ap (λ r. earlier r (cell_rules c.args.wanted (drop (k + 1) cs))) (c.earlier-first.ensures ∙ ap (earlier c.loop-cell.first) c.cell_rule.ensures)
    ∙ cells_step c.args.wanted cs k (record { fits = false; base = None; site = record { line = 0; col = 0 } }) c.loop-cell.first below
    ∙ c.loop-cell.invariant
