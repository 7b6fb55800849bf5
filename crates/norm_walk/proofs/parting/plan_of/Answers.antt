use Rattle.std.proofs.Common.{subst}
use Rattle.std.specs.Prelude.{Option, IfNone, map}
use Rattle.sac_base.specs.declared.site.Site.{Site}
use Rattle.core_ir.specs.Terms.{gens_of}
use Rattle.core_ir.specs.View.{gen_term}
use Rattle.fact_table.specs.Table.{facts_of}
use Rattle.partable_loops.specs.Planned.{IsPlannable}
use Rattle.partable_loops.specs.declared.planning.PartPlan.{PartPlan}
use Rattle.variable_bases.specs.Table.{base_in}
use Rattle.norm_walk.proofs.Ends.{left_refused}
use Rattle.norm_walk.proofs.parting.plan_of.Goals as goal

pub returns-in-None-clause-left : goal.returns-in-None-clause-left
returns-in-None-clause-left c =
    let given = c.args.given.now in
    let gens = gens_of (map gen_term c.args.gens.now) in
    let refused = subst (λ (o : Option PartPlan). IfNone o ((s : Site) → IsPlannable (facts_of c.args.table.now) c.args.above s c.args.op gens → ⊥)) c.in-None.is c.in_ok-plan.ensures.refused in
    left_refused (base_in given.bases.now) given.first (facts_of c.args.table.now) c.args.above c.args.op gens refused
