use Rattle.core_ir.specs.View.{core_term}
use Rattle.sac_build.specs.loop_turns.Steps.{Turned}
use Rattle.sac_build.proofs.loop_turns.turns.join_loops.Given as goal

abbrev pub invariant-loop-turn : goal.invariant-loop-turn
invariant-loop-turn l = Turned (core_term l.initial.core) (core_term l.core) l.folded l.scalarised
