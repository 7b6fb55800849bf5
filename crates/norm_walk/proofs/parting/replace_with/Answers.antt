use Rattle.std.proofs.Common.{subst, List, ◌∙◌}
use Rattle.std.specs.Prelude.{Ok, Option, IfNone, IfSome, map}
use Rattle.sac_base.specs.declared.site.Site.{Site}
use Rattle.core_ir.specs.declared.tree.CoreGen.{CoreGen}
use Rattle.core_ir.specs.Terms.{gens_of}
use Rattle.core_ir.specs.View.{gen_term}
use Rattle.core_ir.proofs.Trees.{with_roll}
use Rattle.fact_table.specs.Table.{facts_of}
use Rattle.variable_bases.specs.Table.{base_in}
use Rattle.norm_walk.specs.declared.parting.BasedPlan.{BasedPlan}
use Rattle.norm_walk.specs.Replacing.{IsLeft, IsPlanned}
use Rattle.norm_walk.proofs.Ends.{replaced_lent, unchanged_end}
use Rattle.plain_facts.proofs.known_rights.Told.{with_known}
use Rattle.core_ir.specs.declared.tree.WithLoop.{roll-WithLoop}
use Rattle.norm_walk.proofs.parting.replace_with.Goals as goal

pub returns-in-Some-clause-replaced : goal.returns-in-Some-clause-replaced
returns-in-Some-clause-replaced c =
    let given = c.args.given.now in
    let k = facts_of c.args.table.now in
    let bases = base_in given.bases.now in
    let p = c.args.progress.now in
    let planned = subst (λ (o : Option BasedPlan). IfSome o (λ (n : BasedPlan). IsPlanned bases given.first k p.next c.args.op (gens_of (map gen_term c.deref.result.now)) n.base n.plan)) c.in-Some.is c.in_ok-planned.ensures.planned in
    replaced_lent bases given.first k p c.parted_loop.new.progress c.args.site c.args.op c.args.gens.items c.deref.result.now c.deref-in-Some.result.now c.in-Some.planned.base c.in-Some.planned.plan c.parted_loop.result
    c.deref.ensures.value c.deref-in-Some.ensures.value planned c.parted_loop.ensures.right c.parted_loop.ensures.after

pub returns-in-None-clause-replaced : goal.returns-in-None-clause-replaced
returns-in-None-clause-replaced c =
    let given = c.args.given.now in
    let k = facts_of c.args.table.now in
    let bases = base_in given.bases.now in
    let p = c.args.progress.now in
    let left = subst (λ (o : Option BasedPlan). IfNone o ((s : Site) → IsLeft bases given.first p.next k s c.args.op (gens_of (map gen_term c.deref.result.now)))) c.in-None.is c.in_ok-planned.ensures.left in
    unchanged_end bases given.first k p c.args.site c.args.op (map gen_term c.args.gens.items) (Ok c.of_with.result) (c.of_with.ensures.right ∙ with_roll (record { gens = c.args.gens; op = c.args.op }))
    (subst (λ (gs : List CoreGen). (s : Site) → IsLeft bases given.first p.next k s c.args.op (gens_of (map gen_term gs))) c.deref.ensures.value left)

pub returns-in-None-clause-known : goal.returns-in-None-clause-known
returns-in-None-clause-known c = with_known c.of_with.result (roll-WithLoop (record { gens = c.args.gens; op = c.args.op })) c.of_with.ensures.right c.of_with.ensures.known
