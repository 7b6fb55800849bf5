use Rattle.std.proofs.Common.{◌≡◌, ◌-◌, length}
use Rattle.std.specs.Prelude.{drop}
use Rattle.fact_table.specs.Table.{facts_of}
use Rattle.core_walk.proofs.Ends.{GensGoing, LetsGoing, PartsGoing}
use Rattle.core_walk.proofs.walk.+walking.Given as goal

abbrev pub invariant-walk_block-loop-binding : goal.invariant-walk_block-loop-binding
invariant-walk_block-loop-binding g l = record {
  going : LetsGoing (g.R.Rewriting.called l.pass) g.row.R-Progress.Denot (g.R.Rewriting.step l.pass) (g.R.Rewriting.finish l.pass)
      (facts_of l.initial.table) l.initial.progress l.initial.binding-iterator.rest.items (facts_of l.table) l.progress l.done.items l.binding-iterator.rest.items;
  earlier : drop (length l.table - l.before) l.table ≡ l.initial.table;
}

abbrev pub invariant-walk_with-loop-generator : goal.invariant-walk_with-loop-generator
invariant-walk_with-loop-generator g l = record {
  going : GensGoing (g.R.Rewriting.called l.pass) g.row.R-Progress.Denot (g.R.Rewriting.step l.pass) (g.R.Rewriting.finish l.pass)
      (facts_of l.initial.table) l.initial.progress l.initial.generator-iterator.rest.items l.progress l.done.items l.generator-iterator.rest.items;
  table : l.table ≡ l.initial.table;
}

abbrev pub invariant-walk_parted-loop-part : goal.invariant-walk_parted-loop-part
invariant-walk_parted-loop-part g l = record {
  going : PartsGoing (g.R.Rewriting.called l.pass) g.row.R-Progress.Denot (g.R.Rewriting.step l.pass) (g.R.Rewriting.finish l.pass)
      (facts_of l.initial.table) l.initial.progress l.initial.part-iterator.rest.items l.progress l.done.items l.part-iterator.rest.items;
  table : l.table ≡ l.initial.table;
}
