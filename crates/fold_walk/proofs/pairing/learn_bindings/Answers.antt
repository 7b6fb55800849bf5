use Rattle.fact_table.proofs.scoped_table.Marks.{earlier_on, none_gone}
use Rattle.fact_table.specs.Table.{facts_of}
use Rattle.plain_facts.specs.Called.{shapes_of}
use Rattle.fold_walk.proofs.Learned.{back_end, back_first, back_turn}
use Rattle.fold_walk.proofs.pairing.learn_bindings.Goals as goal

pub loop-turn-init : goal.loop-turn-init
loop-turn-init c = record {
  facts = back_first (shapes_of c.args.called.now) c.args.bindings.now (facts_of c.args.table.now);
  earlier = none_gone c.args.table.now;
}

pub loop-turn-preserved : goal.loop-turn-preserved
loop-turn-preserved c = record {
  facts = back_turn (shapes_of c.args.called.now) c.args.bindings.now (facts_of c.args.table.now) c.loop-turn.turn c.index-bindings-count.result (facts_of c.loop-turn.table) (facts_of c.learn_binding.new.table)
      c.loop-turn-test.true c.index-bindings-count.is c.in_ok-learn_binding.ensures.learned c.loop-turn.invariant.facts;
  earlier = earlier_on c.args.table.now c.loop-turn.table c.learn_binding.new.table c.loop-turn.invariant.earlier c.in_ok-learn_binding.ensures.earlier;
}

pub returns-clause-learned : goal.returns-clause-learned
returns-clause-learned c = back_end (shapes_of c.args.called.now) c.args.bindings.now (facts_of c.args.table.now) c.loop-turn.turn (facts_of c.loop-turn.table) c.loop-turn-test.false c.loop-turn.invariant.facts
