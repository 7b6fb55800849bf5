use Rattle.core_ir.specs.View.{core_term}
use Rattle.wl_folding.specs.Folded.{CoreFolded}
use Rattle.wl_folding.proofs.pass.rounds.Given as goal

abbrev pub invariant-loop-round : goal.invariant-loop-round
invariant-loop-round l = CoreFolded (core_term l.initial.core) (core_term l.core) l.folds.items
