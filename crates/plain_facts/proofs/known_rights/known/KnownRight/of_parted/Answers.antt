use Rattle.std.proofs.Common.{◌∙◌, ap}
use Rattle.core_facts.specs.Facts.{shape_fact}
use Rattle.plain_facts.proofs.known_rights.Told.{parted_known}
use Rattle.plain_facts.proofs.known_rights.known.KnownRight.of_parted.Goals as goal

pub returns-clause-known : goal.returns-clause-known
returns-clause-known c = parted_known c.of_one.result c.args.parted _ c.of_one.ensures.right c.of_one.ensures.known (c.of_shape.ensures ∙ ap shape_fact c.parted_shape-shape.ensures)
