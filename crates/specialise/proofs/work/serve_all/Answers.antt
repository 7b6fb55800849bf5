use Rattle.std.proofs.Common.{◌≡◌, ◌∙◌, refl, arith, sym, subst}
use Rattle.std.proofs.lemmas.List.{length-map}
use Rattle.core_ir.specs.View.{core_term}
use Rattle.specialise.specs.Plans.{entry, entries, members}
use Rattle.specialise.proofs.Progress.{grows_itself, grows_through}
use Rattle.specialise.proofs.Turns.{entry_done, all_entries}
use Rattle.specialise.proofs.work.serve_all.Goals as goal

pub loop-next-init : goal.loop-next-init
loop-next-init c = record {
  planned = λ well plan. plan;
  grown = grows_itself (entries c.args.plan.now.items.items) (members c.args.plan.now.groups.items);
  served = λ well plan n e lt. absurd (omega (arith, lt));
  main = refl;
}

pub loop-next-preserved : goal.loop-next-preserved
loop-next-preserved c =
    let core = core_term c.args.core.now in
    let items = c.loop-next.plan.items.items in
    let es = entries items in
    let gs = members c.loop-next.plan.groups.items in
    let v = c.loop-next.invariant in
    let step = c.in_ok-serve_item.ensures in
    record {
      planned = λ well plan. step.planned well (v.planned well plan);
      grown = grows_through _ _ es gs _ _ v.grown step.grown;
      served = λ well plan.
          entry_done core well es gs (v.planned well plan) _ _ step.grown c.loop-next.next (let long = length-map items entry in omega (arith, long, c.if-next-len.false, c.len.ensures))
          (step.served well (v.planned well plan)) (v.served well plan);
      main = step.main ∙ v.main;
    }

pub returns-then-next-len-clause-served : goal.returns-then-next-len-clause-served
returns-then-next-len-clause-served c well plan =
    let core = core_term c.args.core.now in
    let items = c.loop-next.plan.items.items in
    all_entries core (entries items) (members c.loop-next.plan.groups.items) c.loop-next.next (let long = length-map items entry in omega (arith, long, c.if-next-len.true, c.len.ensures))
    (c.loop-next.invariant.served well plan)
