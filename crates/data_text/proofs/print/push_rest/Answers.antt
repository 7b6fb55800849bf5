use Rattle.std.proofs.Common.{rules, arith, ◌≡◌, ◌<◌, ◌++◌, ℤ, pos, length, get_or, subst, to_z, of_z, w32}
use Rattle.std.proofs.lemmas.Int.{ints, to_z-of_z}
use Rattle.data_text.specs.Printed.{further_extent, Part}
use Rattle.data_text.proofs.AppendFacts.{stops, item_part, item_more}
use Rattle.data_text.proofs.print.push_rest.Goals as goal

pub returns-in_err-push_further : goal.returns-in_err-push_further
returns-in_err-push_further c =
    let here : c.loop-extent.extent-index < length c.args.extents.now = search rules in
    let item : ℤ = get_or c.args.extents.now c.loop-extent.extent-index (pos 0) in
    let whole : to_z w32 (of_z w32 item) ≡ item = grind (arith, ints, to_z-of_z) in
    let part = subst (λ (z : ℤ). Part c.loop-extent.into.items c.push_further.new.into.items (further_extent z)) whole c.in_err-push_further.ensures in
    stops c.from_residual.result c.from_residual.ensures.0
    (item_part further_extent c.args.extents.now c.loop-extent.extent-index (pos 0) c.args.into.now.items c.loop-extent.into.items c.push_further.new.into.items here c.loop-extent.invariant part)

pub loop-extent-preserved : goal.loop-extent-preserved
loop-extent-preserved c =
    let here : c.loop-extent.extent-index < length c.args.extents.now = search rules in
    let item : ℤ = get_or c.args.extents.now c.loop-extent.extent-index (pos 0) in
    let whole : to_z w32 (of_z w32 item) ≡ item = grind (arith, ints, to_z-of_z) in
    let more = subst (λ (z : ℤ). c.push_further.new.into.items ≡ c.loop-extent.into.items ++ further_extent z) whole c.in_ok-push_further.ensures in
    item_more further_extent c.args.extents.now c.loop-extent.extent-index (pos 0) c.args.into.now.items c.loop-extent.into.items c.push_further.new.into.items here c.loop-extent.invariant more
