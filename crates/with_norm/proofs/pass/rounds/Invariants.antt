use Rattle.core_ir.specs.View.{core_term}
use Rattle.with_norm.specs.Normed.{Normalised}
use Rattle.with_norm.proofs.pass.rounds.Given as goal

abbrev pub invariant-loop-round : goal.invariant-loop-round
invariant-loop-round l = Normalised (core_term l.initial.core) (core_term l.core) l.replaced
