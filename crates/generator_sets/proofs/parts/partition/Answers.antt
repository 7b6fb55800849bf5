use Rattle.sac_base.specs.Grids.{has_vector}
use Rattle.generator_sets.proofs.Kept.{frame_split, first_named}
use Rattle.generator_sets.proofs.Joining.{merged_split}
use Rattle.generator_sets.proofs.parts.partition.Goals as goal

pub returns-in_ok-parts-in-Ok-clause-cover : goal.returns-in_ok-parts-in-Ok-clause-cover
returns-in_ok-parts-in-Ok-clause-cover c =
    merged_split (has_vector c.args.frame.now) c.in_ok-labelled-in-Ok.labelled.parts.items c.in_ok-parts-in-Ok.parts.items c.in_ok-parts-in-Ok.ensures
    (frame_split c.args.frame.now c.args.generators.now c.in-Ok.pieces.items c.in_ok-labelled-in-Ok.labelled.parts.items c.in_ok-labelled-in-Ok.ensures c.requires.unit c.in-Ok.ensures.split)

pub returns-in_ok-parts-in-Ok-clause-first : goal.returns-in_ok-parts-in-Ok-clause-first
returns-in_ok-parts-in-Ok-clause-first c =
    c.in_ok-parts-in-Ok.ensures.first c.args.generators.now
    (first_named c.args.generators.now c.in-Ok.pieces.items c.in_ok-labelled-in-Ok.labelled.parts.items c.in_ok-labelled-in-Ok.ensures c.in-Ok.ensures.uniform)
