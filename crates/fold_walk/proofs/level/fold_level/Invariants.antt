use Rattle.std.proofs.Common.{◌≡◌, ◌-◌, drop, length, map}
use Rattle.core_ir.specs.View.{let_term}
use Rattle.fact_table.specs.Table.{facts_of}
use Rattle.plain_facts.specs.Called.{shapes_of}
use Rattle.binding_users.specs.Users.{AreUsers}
use Rattle.fold_walk.specs.Walking.{state_of}
use Rattle.fold_walk.proofs.Levels.{Level}
use Rattle.fold_walk.proofs.level.fold_level.Given as goal

abbrev pub invariant-loop-binding : goal.invariant-loop-binding
invariant-loop-binding l = record {
  level : Level (shapes_of l.given.called.now) l.given.function (facts_of l.fn.table) (state_of l.fn.folding) l.results (map let_term l.fn.lets.items) (facts_of l.table) (state_of l.folding) l.done.items l.behind.items;
  users : AreUsers l.users (map let_term l.behind.items);
  earlier : drop (length l.table - length l.fn.table) l.table ≡ l.fn.table;
}

abbrev pub decreases-loop-binding : goal.decreases-loop-binding
decreases-loop-binding l = l.behind.len
