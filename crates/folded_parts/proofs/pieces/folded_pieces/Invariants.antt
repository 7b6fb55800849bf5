use Rattle.std.proofs.Common.{map}
use Rattle.core_ir.specs.View.{part_term}
use Rattle.folded_parts.proofs.Gathering.{Gathered}
use Rattle.folded_parts.proofs.pieces.folded_pieces.Given as goal

abbrev pub invariant-loop-grid : goal.invariant-loop-grid
invariant-loop-grid l = Gathered l.producer (map part_term l.parts) (part_term l.old) l.initial.grid-iterator.rest.items l.initial.progress.next l.made.items l.grid-iterator.rest.items l.progress.next
