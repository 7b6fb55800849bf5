use Rattle.fold_walk.proofs.Gathering.{DueGoing}
use Rattle.fold_walk.proofs.making.all_pieces.Given as goal

abbrev pub invariant-loop-part : goal.invariant-loop-part
invariant-loop-part l = DueGoing l.producer l.parts l.fn.plans.items l.all.items l.part-index l.plans.rest.items
