use Rattle.std.proofs.Common.{◌++◌, length, map}
use Rattle.std.specs.Prelude.{codes, unsigned_abs}
use Rattle.std.specs.Fmt.{decimal, signed_decimal}
use Rattle.data_text.specs.Printed.{form_text, total}
use Rattle.data_text.proofs.AppendFacts.{stops, part_before, then_part, then_appends}
use Rattle.data_text.proofs.print.push_summary.Goals as goal

pub returns-in_err-push_form : goal.returns-in_err-push_form
returns-in_err-push_form c = let ns = map unsigned_abs c.args.extents.now in stops c.from_residual.result c.from_residual.ensures.0 (part_before (codes ": elements " ++ (decimal (length c.args.cells.now) ++ (codes " sum " ++ (signed_decimal (total c.args.base c.args.cells.now) ++ codes "\n")))) c.in_err-push_form.ensures)

pub returns-in_err-push_text : goal.returns-in_err-push_text
returns-in_err-push_text c = let ns = map unsigned_abs c.args.extents.now in stops c.from_residual-in_err-push_text.result c.from_residual-in_err-push_text.ensures.0 (then_part (form_text c.args.base ns) c.in_ok-push_form.ensures (part_before (decimal (length c.args.cells.now) ++ (codes " sum " ++ (signed_decimal (total c.args.base c.args.cells.now) ++ codes "\n"))) c.in_err-push_text.ensures))

pub returns-in_err-push_natural : goal.returns-in_err-push_natural
returns-in_err-push_natural c = let ns = map unsigned_abs c.args.extents.now in stops c.from_residual-in_err-push_natural.result c.from_residual-in_err-push_natural.ensures.0 (then_part (form_text c.args.base ns) c.in_ok-push_form.ensures (then_part (codes ": elements ") c.in_ok-push_text.ensures (part_before (codes " sum " ++ (signed_decimal (total c.args.base c.args.cells.now) ++ codes "\n")) c.in_err-push_natural.ensures)))

pub returns-in_err-push_text-2 : goal.returns-in_err-push_text-2
returns-in_err-push_text-2 c = let ns = map unsigned_abs c.args.extents.now in stops c.from_residual-in_err-push_text-2.result c.from_residual-in_err-push_text-2.ensures.0 (then_part (form_text c.args.base ns) c.in_ok-push_form.ensures (then_part (codes ": elements ") c.in_ok-push_text.ensures (then_part (decimal (length c.args.cells.now)) c.in_ok-push_natural.ensures (part_before (signed_decimal (total c.args.base c.args.cells.now) ++ codes "\n") c.in_err-push_text-2.ensures))))

pub returns-in_err-push_total : goal.returns-in_err-push_total
returns-in_err-push_total c = let ns = map unsigned_abs c.args.extents.now in stops c.from_residual-in_err-push_total.result c.from_residual-in_err-push_total.ensures.0 (then_part (form_text c.args.base ns) c.in_ok-push_form.ensures (then_part (codes ": elements ") c.in_ok-push_text.ensures (then_part (decimal (length c.args.cells.now)) c.in_ok-push_natural.ensures (then_part (codes " sum ") c.in_ok-push_text-2.ensures (part_before (codes "\n") c.in_err-push_total.ensures)))))

pub returns : goal.returns
returns c = let ns = map unsigned_abs c.args.extents.now in then_appends c.args.into.now.items c.push_form.new.into.items c.push_text-3.new.into.items (form_text c.args.base ns) (codes ": elements " ++ (decimal (length c.args.cells.now) ++ (codes " sum " ++ (signed_decimal (total c.args.base c.args.cells.now) ++ codes "\n")))) c.push_text-3.result c.in_ok-push_form.ensures (then_appends c.push_form.new.into.items c.push_text.new.into.items c.push_text-3.new.into.items (codes ": elements ") (decimal (length c.args.cells.now) ++ (codes " sum " ++ (signed_decimal (total c.args.base c.args.cells.now) ++ codes "\n"))) c.push_text-3.result c.in_ok-push_text.ensures (then_appends c.push_text.new.into.items c.push_natural.new.into.items c.push_text-3.new.into.items (decimal (length c.args.cells.now)) (codes " sum " ++ (signed_decimal (total c.args.base c.args.cells.now) ++ codes "\n")) c.push_text-3.result c.in_ok-push_natural.ensures (then_appends c.push_natural.new.into.items c.push_text-2.new.into.items c.push_text-3.new.into.items (codes " sum ") (signed_decimal (total c.args.base c.args.cells.now) ++ codes "\n") c.push_text-3.result c.in_ok-push_text-2.ensures (then_appends c.push_text-2.new.into.items c.push_total.new.into.items c.push_text-3.new.into.items (signed_decimal (total c.args.base c.args.cells.now)) (codes "\n") c.push_text-3.result c.in_ok-push_total.ensures (c.push_text-3.ensures)))))
