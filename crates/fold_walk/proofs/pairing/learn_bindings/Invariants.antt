use Rattle.std.proofs.Common.{◌≡◌, ◌-◌, drop, length}
use Rattle.fact_table.specs.Table.{facts_of}
use Rattle.plain_facts.specs.Called.{shapes_of}
use Rattle.fold_walk.proofs.Learned.{Back}
use Rattle.fold_walk.proofs.pairing.learn_bindings.Given as goal

abbrev pub invariant-loop-turn : goal.invariant-loop-turn
invariant-loop-turn l = record {
  facts : Back (shapes_of l.called) l.bindings (facts_of l.fn.table) l.turn (facts_of l.table);
  earlier : drop (length l.table - length l.fn.table) l.table ≡ l.fn.table;
}
