use Rattle.std.proofs.Common.{rules, arith, ◌≡◌, ◌<◌, ◌++◌, ℤ, pos, length, get_or, subst, to_z, of_z, w32}
use Rattle.std.proofs.lemmas.Int.{ints, to_z-of_z}
use Rattle.data_text.specs.Printed.{spaced, Part}
use Rattle.data_text.proofs.AppendFacts.{stops, item_part, item_more}
use Rattle.data_text.proofs.print.push_cells.Goals as goal

pub returns-in_err-push_spaced : goal.returns-in_err-push_spaced
returns-in_err-push_spaced c =
    let here : c.loop-cell.cell-index < length c.args.cells.now = search rules in
    let item : ℤ = get_or c.args.cells.now c.loop-cell.cell-index (pos 0) in
    let whole : to_z w32 (of_z w32 item) ≡ item = grind (arith, ints, to_z-of_z) in
    let part = subst (λ (z : ℤ). Part c.loop-cell.into.items c.push_spaced.new.into.items (spaced c.args.base z)) whole c.in_err-push_spaced.ensures in
    stops c.from_residual.result c.from_residual.ensures.0
    (item_part (spaced c.args.base) c.args.cells.now c.loop-cell.cell-index (pos 0) c.args.into.now.items c.loop-cell.into.items c.push_spaced.new.into.items here c.loop-cell.invariant part)

pub loop-cell-preserved : goal.loop-cell-preserved
loop-cell-preserved c =
    let here : c.loop-cell.cell-index < length c.args.cells.now = search rules in
    let item : ℤ = get_or c.args.cells.now c.loop-cell.cell-index (pos 0) in
    let whole : to_z w32 (of_z w32 item) ≡ item = grind (arith, ints, to_z-of_z) in
    let more = subst (λ (z : ℤ). c.push_spaced.new.into.items ≡ c.loop-cell.into.items ++ spaced c.args.base z) whole c.in_ok-push_spaced.ensures in
    item_more (spaced c.args.base) c.args.cells.now c.loop-cell.cell-index (pos 0) c.args.into.now.items c.loop-cell.into.items c.push_spaced.new.into.items here c.loop-cell.invariant more
