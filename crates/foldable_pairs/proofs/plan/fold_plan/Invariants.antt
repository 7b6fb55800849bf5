use Rattle.std.proofs.Common.{◌≡◌, ◌≤◌, drop, map}
use Rattle.sac_base.specs.declared.base.Base.{Base}
use Rattle.sac_base.specs.declared.site.Site.{Site}
use Rattle.core_ir.specs.declared.tree.PartedOp.{PartedOp}
use Rattle.core_ir.specs.View.{part_term}
use Rattle.fact_table.specs.Table.{facts_of}
use Rattle.plain_facts.specs.Called.{shapes_of}
use Rattle.foldable_pairs.specs.Building.{Building}
use Rattle.foldable_pairs.specs.Pairs.{producer_of}
use Rattle.foldable_pairs.proofs.plan.fold_plan.Given as goal

abbrev pub invariant-loop-part : goal.invariant-loop-part
invariant-loop-part l = record {
  facts : l.facts ≡ l.initial.facts;
  few : l.plans.count ≤ 64;
  so_far : (s : Site) (base : Base) (made : PartedOp) → Building (shapes_of l.called) (facts_of l.initial.facts) (producer_of l.producer s base made)
      (map part_term l.parts) (map part_term (drop l.part-index l.parts)) l.plans;
}
