use Rattle.folded_parts.proofs.Bodies.{part_roll}
use Rattle.folded_parts.proofs.pieces.part_of.Goals as goal

pub returns : goal.returns
returns c = part_roll _
