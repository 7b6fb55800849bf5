use Rattle.std.proofs.Common.{◌≡◌, ◌-◌, ◌≤◌, drop, length, map}
use Rattle.sac_base.specs.declared.types.ArrayType.{ArrayType}
use Rattle.core_ir.specs.declared.tree.Var.{Var}
use Rattle.core_facts.specs.Facts.{note_all}
use Rattle.fact_table.specs.Table.{facts_of}
use Rattle.plain_facts.proofs.ParamFacts.{types_facts}
use Rattle.plain_facts.proofs.lists.learn_params.Given as goal

abbrev pub invariant-loop-x : goal.invariant-loop-x
invariant-loop-x l = record {
  noted :
      note_all (facts_of l.facts) (map (λ (p : Var × ArrayType). p.0) (drop l.x-index l.x-items)) (types_facts (drop l.x-index l.x-items))
      ≡ note_all (facts_of l.fn.facts) (map (λ (p : Var × ArrayType). p.0) l.x-items) (types_facts l.x-items);
  longer : length l.fn.facts ≤ length l.facts;
  behind : drop (length l.facts - length l.fn.facts) l.facts ≡ l.fn.facts;
}
