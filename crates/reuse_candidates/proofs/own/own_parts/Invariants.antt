use Rattle.std.proofs.Common.{◌≡◌, drop, map}
use Rattle.counted_marks.specs.Marks.{own_parts}
use Rattle.fact_table.specs.Table.{facts_of}
use Rattle.plain_facts.specs.Called.{shapes_of}
use Rattle.counted_code.specs.Pieces.{code_part_term, code_parts_of}
use Rattle.reuse_candidates.proofs.own.own_parts.Given as goal

abbrev pub invariant-loop-part : goal.invariant-loop-part
invariant-loop-part l = record {
  own : own_parts (shapes_of l.called) l.array (code_parts_of (map code_part_term (drop l.part-index l.parts))) (facts_of l.fn.facts)
      ≡ own_parts (shapes_of l.called) l.array (code_parts_of (map code_part_term l.parts)) (facts_of l.fn.facts);
  facts : l.facts ≡ l.fn.facts;
}
