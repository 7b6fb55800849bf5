use Rattle.std.proofs.Common.{◌∙◌, sym, refl, List, map}
use Rattle.core_ir.specs.declared.tree.Let.{Let}
use Rattle.core_ir.specs.View.{let_term, right_term}
use Rattle.core_uses.specs.Tests.{is_avoided_right}
use Rattle.core_uses.proofs.Turns.{passed, failed, ended}
use Rattle.merge_plans.specs.scalarisable.Around.{none_uses}
use Rattle.merge_plans.proofs.scalarisable.around.none_use.Goals as goal

pub loop-binding-preserved : goal.loop-binding-preserved
loop-binding-preserved c =
    passed (λ (l : Let). is_avoided_right c.args.x (right_term l.right)) (λ (ls : List Let). none_uses c.args.x (map let_term ls)) (λ y ys. refl) c.args.bindings.now c.loop-binding.binding-index
    c.binding-item.result _ c.loop-binding-test.true c.binding-item.is (sym c.avoids_right.ensures ∙ c.if-not-avoids_right.false) c.loop-binding.invariant

pub returns-then-not-avoids_right : goal.returns-then-not-avoids_right
returns-then-not-avoids_right c =
    sym (failed (λ (l : Let). is_avoided_right c.args.x (right_term l.right)) (λ (ls : List Let). none_uses c.args.x (map let_term ls)) (λ y ys. refl) c.args.bindings.now c.loop-binding.binding-index
    c.binding-item.result _ c.loop-binding-test.true c.binding-item.is (sym c.avoids_right.ensures ∙ c.if-not-avoids_right.true) c.loop-binding.invariant)

pub returns : goal.returns
returns c =
    sym (ended (λ (l : Let). is_avoided_right c.args.x (right_term l.right)) (λ (ls : List Let). none_uses c.args.x (map let_term ls)) (λ y ys. refl) c.args.bindings.now c.loop-binding.binding-index
    _ c.loop-binding-test.false c.loop-binding.invariant)
