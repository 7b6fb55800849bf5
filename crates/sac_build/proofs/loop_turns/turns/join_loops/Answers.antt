use Rattle.core_ir.specs.View.{core_term}
use Rattle.sac_build.proofs.loop_turns.Turning.{turned_itself, turned_on}
use Rattle.sac_build.proofs.loop_turns.turns.join_loops.Goals as goal

pub loop-turn-init : goal.loop-turn-init
loop-turn-init c = turned_itself (core_term c.args.core)

pub loop-turn-preserved : goal.loop-turn-preserved
loop-turn-preserved c =
    turned_on (core_term c.args.core) (core_term c.loop-turn.core) (core_term c.in_ok-next.next.core) c.loop-turn.folded c.loop-turn.scalarised c.in_ok-next.next.folded c.in_ok-next.next.scalarised
    c.in_ok-folded.folded c.in_ok-scalarised.scalarised c.loop-turn.invariant c.in_ok-next.ensures c.in_ok-folded.ensures c.in_ok-scalarised.ensures

pub returns-then-next-eq0-2-clause-turned : goal.returns-then-next-eq0-2-clause-turned
returns-then-next-eq0-2-clause-turned c =
    turned_on (core_term c.args.core) (core_term c.loop-turn.core) (core_term c.in_ok-next.next.core) c.loop-turn.folded c.loop-turn.scalarised c.in_ok-next.next.folded c.in_ok-next.next.scalarised
    c.in_ok-folded.folded c.in_ok-scalarised.scalarised c.loop-turn.invariant c.in_ok-next.ensures c.in_ok-folded.ensures c.in_ok-scalarised.ensures
