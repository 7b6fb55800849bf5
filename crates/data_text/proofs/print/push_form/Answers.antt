use Rattle.std.proofs.Common.{◌++◌, map}
use Rattle.std.specs.Prelude.{codes, unsigned_abs}
use Rattle.data_text.specs.Numbers.{base_text}
use Rattle.data_text.specs.Printed.{commas}
use Rattle.data_text.proofs.AppendFacts.{stops, part_before, then_part, then_appends}
use Rattle.data_text.proofs.print.push_form.Goals as goal

pub returns-in_err-push_base : goal.returns-in_err-push_base
returns-in_err-push_base c = let ns = map unsigned_abs c.args.extents.now in stops c.from_residual.result c.from_residual.ensures.0 (part_before (codes "[" ++ (commas ns ++ codes "]")) c.in_err-push_base.ensures)

pub returns-in_err-push_text : goal.returns-in_err-push_text
returns-in_err-push_text c = let ns = map unsigned_abs c.args.extents.now in stops c.from_residual-in_err-push_text.result c.from_residual-in_err-push_text.ensures.0 (then_part (base_text c.args.base) c.in_ok-push_base.ensures (part_before (commas ns ++ codes "]") c.in_err-push_text.ensures))

pub returns-in_err-push_extents : goal.returns-in_err-push_extents
returns-in_err-push_extents c = let ns = map unsigned_abs c.args.extents.now in stops c.from_residual-in_err-push_extents.result c.from_residual-in_err-push_extents.ensures.0 (then_part (base_text c.args.base) c.in_ok-push_base.ensures (then_part (codes "[") c.in_ok-push_text.ensures (part_before (codes "]") c.in_err-push_extents.ensures)))

pub returns : goal.returns
returns c = let ns = map unsigned_abs c.args.extents.now in then_appends c.args.into.now.items c.push_base.new.into.items c.push_text-2.new.into.items (base_text c.args.base) (codes "[" ++ (commas ns ++ codes "]")) c.push_text-2.result c.in_ok-push_base.ensures (then_appends c.push_base.new.into.items c.push_text.new.into.items c.push_text-2.new.into.items (codes "[") (commas ns ++ codes "]") c.push_text-2.result c.in_ok-push_text.ensures (then_appends c.push_text.new.into.items c.push_extents.new.into.items c.push_text-2.new.into.items (commas ns) (codes "]") c.push_text-2.result c.in_ok-push_extents.ensures (c.push_text-2.ensures)))
