use Rattle.std.proofs.Common.{rules, suc, ap, refl, ◌∙◌}
use Rattle.core_ir.specs.View.{parted_term}
use Rattle.fact_table.specs.Table.{facts_of}
use Rattle.parted_bodies.specs.declared.names.Progress.{Progress}
use Rattle.plain_facts.specs.Called.{shapes_of}
use Rattle.merge_plans.specs.Mergeable.{PlanOf}
use Rattle.merge_walk.proofs.Loops.{loop_fits, loop_merged}
use Rattle.merge_walk.proofs.here.merge_loop.Goals as goal

pub merged_parts-requires : goal.merged_parts-requires
merged_parts-requires c =
    let called = shapes_of c.args.called.now in
    let k = facts_of c.args.table.now in
    let planned : PlanOf called c.args.progress.now.next k (parted_term c.args.outer) c.in-Some.plan = search rules in
    record { fits = loop_fits called k c.args.progress.now.next c.args.outer c.in-Some.plan planned }

pub returns-clause-merged : goal.returns-clause-merged
returns-clause-merged c =
    let called = shapes_of c.args.called.now in
    let k = facts_of c.args.table.now in
    let old = c.args.progress.now in
    let planned : PlanOf called old.next k (parted_term c.args.outer) c.in-Some.plan = search rules in
    let parts = c.in_ok-parts.ensures in
    let counted = c.in_ok-count.ensures in
    loop_merged called k old c.count.new.self c.args.outer c.in-Some.plan _ planned
    (ap (λ (p : Progress). p.next) counted ∙ ap (λ (p : Progress). p.next) parts.next)
    (ap (λ (p : Progress). p.replaced) counted ∙ ap (λ (p : Progress). suc p.replaced) parts.next)
    refl refl c.empty.ensures refl parts.parts
