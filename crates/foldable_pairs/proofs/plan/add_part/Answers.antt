use Rattle.std.proofs.Common.{rules, ◌≤◌, ℕ}
use Rattle.sac_base.specs.declared.base.Base.{Base}
use Rattle.sac_base.specs.declared.site.Site.{Site}
use Rattle.core_ir.specs.declared.tree.PartedOp.{PartedOp}
use Rattle.core_ir.specs.View.{part_term}
use Rattle.core_loops.specs.Pairs.{PartFolds}
use Rattle.fact_table.specs.Table.{facts_of}
use Rattle.plain_facts.specs.Called.{shapes_of}
use Rattle.foldable_pairs.specs.Pairs.{IsNear, PartPlanned, producer_of}
use Rattle.foldable_pairs.proofs.Planning.{build, no_part, too_many}
use Rattle.foldable_pairs.proofs.plan.add_part.Goals as goal

pub returns-clause-added : goal.returns-clause-added
returns-clause-added c = λ e whole rest s base made so_far.
    let called = shapes_of c.args.called.now in
    let k = facts_of c.args.facts.now in
    let part = part_term c.args.part.now in
    let planned = c.in-Some.planned in
    let is : (s : Site) (base : Base) (made : PartedOp)
    → PartPlanned called k (producer_of c.args.producer.now s base made) part planned.plan planned.plan.selected planned.count = search rules in
    build called k (producer_of c.args.producer.now s base made) whole rest part c.args.plans.now so_far planned c.push_plan.new.plans (is s base made) (c.push_plan.ensures.added e)

pub returns-clause-none : goal.returns-clause-none
returns-clause-none c = λ e near whole rest s base made so_far take.
    let called = shapes_of c.args.called.now in
    let k = facts_of c.args.facts.now in
    let part = part_term c.args.part.now in
    let planned = c.in-Some.planned in
    let is : (s : Site) (base : Base) (made : PartedOp)
    → PartPlanned called k (producer_of c.args.producer.now s base made) part planned.plan planned.plan.selected planned.count = search rules in
    too_many called k (producer_of c.args.producer.now s base made) whole rest part c.args.plans.now so_far planned.plan planned.plan.selected planned.count (is s base made)
    (c.push_plan.ensures.many e) take

pub returns-in_default-clause-none : goal.returns-in_default-clause-none
returns-in_default-clause-none c = λ e near whole rest s base made so_far take.
    let called = shapes_of c.args.called.now in
    let k = facts_of c.args.facts.now in
    let part = part_term c.args.part.now in
    let none : IsNear c.args.producer.now → (s : Site) (base : Base) (made : PartedOp) (selected count : ℕ) → count ≤ 64
    → PartFolds called k (producer_of c.args.producer.now s base made) part.head part.body selected count → ⊥ = search rules in
    no_part called k (producer_of c.args.producer.now s base made) whole rest part c.args.plans.now so_far (none near s base made) take
