use Rattle.std.proofs.Common.{ap, ◌∙◌, map}
use Rattle.std.specs.Prelude.{unsigned_abs}
use Rattle.run_values.specs.Shown.{value_of, shape_of}
use Rattle.run_types.proofs.Shapes.{shape_told}
use Rattle.run_types.proofs.values.shape_of.Goals as goal

pub returns : goal.returns
returns c =
    shape_told _ c.from_extents.result c.ok_or.result c.as_slice.result.now (shape_of (value_of c.args.value.now)) c.ok_or.ensures.value c.from_extents.ensures.value (ap (map unsigned_abs) c.as_slice.ensures.numbers ∙ c.extents-extents.ensures)
