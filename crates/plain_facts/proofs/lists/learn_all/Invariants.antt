use Rattle.std.proofs.Common.{◌≡◌, ◌-◌, ◌≤◌, drop, length, map}
use Rattle.core_facts.specs.Facts.{note_all}
use Rattle.fact_table.specs.Table.{fact_of, facts_of}
use Rattle.plain_facts.proofs.lists.learn_all.Given as goal

abbrev pub invariant-loop-x : goal.invariant-loop-x
invariant-loop-x l = record {
  noted : note_all (facts_of l.facts) (drop l.x-index l.xs) (map fact_of l.rest.rest.items) ≡ note_all (facts_of l.fn.facts) l.xs (map fact_of l.fn.known.items);
  longer : length l.fn.facts ≤ length l.facts;
  behind : drop (length l.facts - length l.fn.facts) l.facts ≡ l.fn.facts;
}
