use Rattle.std.proofs.Common.{map}
use Rattle.core_ir.specs.View.{part_term}
use Rattle.fold_walk.proofs.Gathering.{MadeGoing}
use Rattle.fold_walk.proofs.making.all_parts.Given as goal

abbrev pub invariant-loop-part : goal.invariant-loop-part
invariant-loop-part l = MadeGoing l.producer.var (map part_term l.producer.parts.now) l.parts l.fn.pieces.items l.fn.progress.next (map part_term l.all.items) l.part-index l.pieces.rest.items l.progress.next
