use Rattle.std.proofs.Common.{◌≡◌, ◌∙◌, ap, sym, Some}
use Rattle.core_facts.specs.Facts.{Fact}
use Rattle.fact_table.specs.Table.{facts_of}
use Rattle.known_calls.specs.Known.{shapes_known}
use Rattle.known_calls.proofs.Finding.{prefixed, nothing_before, shape_turn, no_shape, all_shapes}
use Rattle.known_calls.proofs.calls.shapes_known.Goals as goal

pub loop-var-init : goal.loop-var-init
loop-var-init c =
    let known = shapes_known (facts_of c.args.table.now) c.args.vars.now in
    sym (ap (λ ss. prefixed ss known) c.new-shapes.ensures.items ∙ nothing_before known)

pub loop-var-preserved : goal.loop-var-preserved
loop-var-preserved c =
    shape_turn (facts_of c.args.table.now) c.args.vars.now c.loop-var.var-index _ c.loop-var.shapes.items c.push.new.self.items c.copy.result _ c.loop-var-test.true
    (sym (ap (λ (f : Fact). f.shape) c.fact.ensures) ∙ c.in-Some.is ∙ ap Some (sym c.copy.ensures)) c.loop-var.invariant c.in_ok-push-in-Some.ensures.items

pub returns-in-None : goal.returns-in-None
returns-in-None c =
    no_shape (facts_of c.args.table.now) c.args.vars.now c.loop-var.var-index _ c.loop-var.shapes.items _ c.loop-var-test.true
    (sym (ap (λ (f : Fact). f.shape) c.fact.ensures) ∙ c.in-None.is) c.loop-var.invariant

pub returns : goal.returns
returns c = all_shapes (facts_of c.args.table.now) c.args.vars.now c.loop-var.var-index c.loop-var.shapes.items _ c.loop-var-test.false c.loop-var.invariant
