use Rattle.core_ir.specs.View.{core_term}
use Rattle.scalarise.specs.Scalarised.{Scalarised}
use Rattle.scalarise.proofs.pass.rounds.Given as goal

abbrev pub invariant-loop-round : goal.invariant-loop-round
invariant-loop-round l = Scalarised (core_term l.initial.core) (core_term l.core) l.merged
