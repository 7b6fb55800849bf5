use Rattle.std.proofs.Common.{◌∙◌, ap, sym}
use Rattle.core_loops.specs.Indices.{Plus}
use Rattle.index_table.specs.Numbers.{steps, items_of}
use Rattle.index_table.proofs.NumberFacts.{plus_some}
use Rattle.index_table.proofs.relations.plus_numbers.Goals as goal

pub returns-in_ok-all_changed-in-Some : goal.returns-in_ok-all_changed-in-Some
returns-in_ok-all_changed-in-Some c =
    let cs = c.args.numbers.now in
    let ds = c.in-Some.by.items in
    ap Plus (c.in_ok-all_changed-in-Some.ensures ∙ ap (steps c.args.change cs) c.deref.ensures.value)
    ∙ plus_some c.args.change cs ds c.args.array.now (ap items_of (sym c.in-Some.is) ∙ c.in_ok-by.ensures)
