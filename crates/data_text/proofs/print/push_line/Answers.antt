use Rattle.std.proofs.Common.{◌++◌, map}
use Rattle.std.specs.Prelude.{codes, unsigned_abs}
use Rattle.std.specs.List.{flat_map}
use Rattle.data_text.specs.Printed.{form_text, spaced}
use Rattle.data_text.proofs.AppendFacts.{stops, part_before, then_part, then_appends}
use Rattle.data_text.proofs.print.push_line.Goals as goal

pub returns-in_err-push_form : goal.returns-in_err-push_form
returns-in_err-push_form c = let ns = map unsigned_abs c.args.extents.now in stops c.from_residual.result c.from_residual.ensures.0 (part_before (codes ":" ++ (flat_map (spaced c.args.base) c.args.cells.now ++ codes "\n")) c.in_err-push_form.ensures)

pub returns-in_err-push_text : goal.returns-in_err-push_text
returns-in_err-push_text c = let ns = map unsigned_abs c.args.extents.now in stops c.from_residual-in_err-push_text.result c.from_residual-in_err-push_text.ensures.0 (then_part (form_text c.args.base ns) c.in_ok-push_form.ensures (part_before (flat_map (spaced c.args.base) c.args.cells.now ++ codes "\n") c.in_err-push_text.ensures))

pub returns-in_err-push_cells : goal.returns-in_err-push_cells
returns-in_err-push_cells c = let ns = map unsigned_abs c.args.extents.now in stops c.from_residual-in_err-push_cells.result c.from_residual-in_err-push_cells.ensures.0 (then_part (form_text c.args.base ns) c.in_ok-push_form.ensures (then_part (codes ":") c.in_ok-push_text.ensures (part_before (codes "\n") c.in_err-push_cells.ensures)))

pub returns : goal.returns
returns c = let ns = map unsigned_abs c.args.extents.now in then_appends c.args.into.now.items c.push_form.new.into.items c.push_text-2.new.into.items (form_text c.args.base ns) (codes ":" ++ (flat_map (spaced c.args.base) c.args.cells.now ++ codes "\n")) c.push_text-2.result c.in_ok-push_form.ensures (then_appends c.push_form.new.into.items c.push_text.new.into.items c.push_text-2.new.into.items (codes ":") (flat_map (spaced c.args.base) c.args.cells.now ++ codes "\n") c.push_text-2.result c.in_ok-push_text.ensures (then_appends c.push_text.new.into.items c.push_cells.new.into.items c.push_text-2.new.into.items (flat_map (spaced c.args.base) c.args.cells.now) (codes "\n") c.push_text-2.result c.in_ok-push_cells.ensures (c.push_text-2.ensures)))
