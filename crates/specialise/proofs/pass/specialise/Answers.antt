use Rattle.std.proofs.Common.{◌≡◌, ◌∙◌, ◌^◌, ◌<◌, ap, sym, subst, length, map, List}
use Rattle.std.proofs.lemmas.List.{length-map}
use Rattle.std.proofs.lemmas.Result.{IfOk-weaker}
use Rattle.sac_base.specs.Arrays.{ArrayValue, form_of}
use Rattle.sac_base.specs.declared.faults.Caps.{Caps}
use Rattle.core_ir.specs.declared.tree.Core.{Core}
use Rattle.core_ir.specs.Outcome.{outcome}
use Rattle.core_ir.specs.View.{core_term}
use Rattle.core_ir.specs.WellFormed.{IsWellFormed}
use Rattle.specialise.specs.Plans.{entries, entry, members, IsPlan}
use Rattle.specialise.specs.Orders.{IsBuilt}
use Rattle.specialise.specs.Mains.{MainTakes, FewAdded}
use Rattle.specialise.specs.Served.{CallsServed}
use Rattle.specialise.proofs.Whole.{MainIs, main_planned, main_kept, well_formed, same_outcome, main_takes, added, served}
use Rattle.specialise.proofs.pass.specialise.Goals as goal

pub returns-clause-outcome : goal.returns-clause-outcome
returns-clause-outcome c = λ well args caps h.
    let core = core_term c.args.core in
    let forms = c.args.forms.now in
    let first = c.in_ok-plan.plan in
    let second = c.plan_main.new.plan in
    let third = c.serve_all.new.plan in
    let begun = main_planned core well forms (entries first.items.items) (entries second.items.items) (members first.groups.items) first.main second.main
    c.in_ok-plan.ensures.items c.in_ok-plan.ensures.groups c.in_ok-plan.ensures.main c.in_ok-plan_main.ensures.planned in
    let plan = c.in_ok-serve_all.ensures.planned well (subst (λ gs. IsPlan core (entries second.items.items) (members gs)) (ap (λ g. g.items) (sym c.in_ok-plan_main.ensures.groups)) begun.0) in
    let main = subst (MainIs core forms (entries third.items.items)) (sym c.in_ok-serve_all.ensures.main)
    (main_kept core forms (entries second.items.items) (entries third.items.items) second.main c.in_ok-serve_all.ensures.grown.kept begun.1) in
    let few = subst (λ n. n < 2 ^ 32) (sym (length-map third.items.items entry)) c.in_ok-serve_all.ensures.few in
    IfOk-weaker c.build.result (λ (new : Core). IsBuilt core (entries third.items.items) (members third.groups.items) third.main (core_term new)) (λ (new : Core). outcome core args caps ≡ outcome (core_term new) args caps)
    (λ new built. same_outcome core (core_term new) well forms (entries third.items.items) (members third.groups.items) third.main plan main few built args caps h) c.build.ensures

pub returns-clause-well : goal.returns-clause-well
returns-clause-well c = λ well.
    let core = core_term c.args.core in
    let forms = c.args.forms.now in
    let first = c.in_ok-plan.plan in
    let second = c.plan_main.new.plan in
    let third = c.serve_all.new.plan in
    let begun = main_planned core well forms (entries first.items.items) (entries second.items.items) (members first.groups.items) first.main second.main
    c.in_ok-plan.ensures.items c.in_ok-plan.ensures.groups c.in_ok-plan.ensures.main c.in_ok-plan_main.ensures.planned in
    let plan = c.in_ok-serve_all.ensures.planned well (subst (λ gs. IsPlan core (entries second.items.items) (members gs)) (ap (λ g. g.items) (sym c.in_ok-plan_main.ensures.groups)) begun.0) in
    let main = subst (MainIs core forms (entries third.items.items)) (sym c.in_ok-serve_all.ensures.main)
    (main_kept core forms (entries second.items.items) (entries third.items.items) second.main c.in_ok-serve_all.ensures.grown.kept begun.1) in
    let few = subst (λ n. n < 2 ^ 32) (sym (length-map third.items.items entry)) c.in_ok-serve_all.ensures.few in
    IfOk-weaker c.build.result (λ (new : Core). IsBuilt core (entries third.items.items) (members third.groups.items) third.main (core_term new)) (λ (new : Core). IsWellFormed (core_term new))
    (λ new built. well_formed core (core_term new) well forms (entries third.items.items) (members third.groups.items) third.main plan main few built) c.build.ensures

pub returns-clause-added : goal.returns-clause-added
returns-clause-added c = λ well.
    let core = core_term c.args.core in
    let forms = c.args.forms.now in
    let first = c.in_ok-plan.plan in
    let second = c.plan_main.new.plan in
    let third = c.serve_all.new.plan in
    let begun = main_planned core well forms (entries first.items.items) (entries second.items.items) (members first.groups.items) first.main second.main
    c.in_ok-plan.ensures.items c.in_ok-plan.ensures.groups c.in_ok-plan.ensures.main c.in_ok-plan_main.ensures.planned in
    let plan = c.in_ok-serve_all.ensures.planned well (subst (λ gs. IsPlan core (entries second.items.items) (members gs)) (ap (λ g. g.items) (sym c.in_ok-plan_main.ensures.groups)) begun.0) in
    let main = subst (MainIs core forms (entries third.items.items)) (sym c.in_ok-serve_all.ensures.main)
    (main_kept core forms (entries second.items.items) (entries third.items.items) second.main c.in_ok-serve_all.ensures.grown.kept begun.1) in
    let few = subst (λ n. n < 2 ^ 32) (sym (length-map third.items.items entry)) c.in_ok-serve_all.ensures.few in
    IfOk-weaker c.build.result (λ (new : Core). IsBuilt core (entries third.items.items) (members third.groups.items) third.main (core_term new)) (λ (new : Core). FewAdded core (core_term new))
    (λ new built. added core (core_term new) well forms (entries third.items.items) (members third.groups.items) third.main plan main few built) c.build.ensures

pub returns-clause-main : goal.returns-clause-main
returns-clause-main c = λ well.
    let core = core_term c.args.core in
    let forms = c.args.forms.now in
    let first = c.in_ok-plan.plan in
    let second = c.plan_main.new.plan in
    let third = c.serve_all.new.plan in
    let begun = main_planned core well forms (entries first.items.items) (entries second.items.items) (members first.groups.items) first.main second.main
    c.in_ok-plan.ensures.items c.in_ok-plan.ensures.groups c.in_ok-plan.ensures.main c.in_ok-plan_main.ensures.planned in
    let plan = c.in_ok-serve_all.ensures.planned well (subst (λ gs. IsPlan core (entries second.items.items) (members gs)) (ap (λ g. g.items) (sym c.in_ok-plan_main.ensures.groups)) begun.0) in
    let main = subst (MainIs core forms (entries third.items.items)) (sym c.in_ok-serve_all.ensures.main)
    (main_kept core forms (entries second.items.items) (entries third.items.items) second.main c.in_ok-serve_all.ensures.grown.kept begun.1) in
    let few = subst (λ n. n < 2 ^ 32) (sym (length-map third.items.items entry)) c.in_ok-serve_all.ensures.few in
    IfOk-weaker c.build.result (λ (new : Core). IsBuilt core (entries third.items.items) (members third.groups.items) third.main (core_term new)) (λ (new : Core). MainTakes core (core_term new) forms)
    (λ new built. main_takes core (core_term new) well forms (entries third.items.items) (members third.groups.items) third.main plan main few built) c.build.ensures

pub returns-clause-served : goal.returns-clause-served
returns-clause-served c = λ well.
    let core = core_term c.args.core in
    let forms = c.args.forms.now in
    let first = c.in_ok-plan.plan in
    let second = c.plan_main.new.plan in
    let third = c.serve_all.new.plan in
    let begun = main_planned core well forms (entries first.items.items) (entries second.items.items) (members first.groups.items) first.main second.main
    c.in_ok-plan.ensures.items c.in_ok-plan.ensures.groups c.in_ok-plan.ensures.main c.in_ok-plan_main.ensures.planned in
    let plan = c.in_ok-serve_all.ensures.planned well (subst (λ gs. IsPlan core (entries second.items.items) (members gs)) (ap (λ g. g.items) (sym c.in_ok-plan_main.ensures.groups)) begun.0) in
    let main = subst (MainIs core forms (entries third.items.items)) (sym c.in_ok-serve_all.ensures.main)
    (main_kept core forms (entries second.items.items) (entries third.items.items) second.main c.in_ok-serve_all.ensures.grown.kept begun.1) in
    let few = subst (λ n. n < 2 ^ 32) (sym (length-map third.items.items entry)) c.in_ok-serve_all.ensures.few in
    let done = c.in_ok-serve_all.ensures.served well (subst (λ gs. IsPlan core (entries second.items.items) (members gs)) (ap (λ g. g.items) (sym c.in_ok-plan_main.ensures.groups)) begun.0) in
    IfOk-weaker c.build.result (λ (new : Core). IsBuilt core (entries third.items.items) (members third.groups.items) third.main (core_term new)) (λ (new : Core). CallsServed (core_term new))
    (λ new built. served core (core_term new) well forms (entries third.items.items) (members third.groups.items) third.main plan main few built done) c.build.ensures
