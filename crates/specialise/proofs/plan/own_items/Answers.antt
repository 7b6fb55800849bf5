use Rattle.std.proofs.Common.{◌≡◌, ◌∙◌, ap, map, length, rules, arith}
use Rattle.sac_base.specs.declared.types.ArrayType.{ArrayType}
use Rattle.core_ir.specs.declared.tree.Var.{Var}
use Rattle.specialise.proofs.Steps.{own_turn}
use Rattle.specialise.proofs.plan.own_items.Goals as goal

pub loop-function-preserved : goal.loop-function-preserved
loop-function-preserved c =
    let same : c.in_ok-source.source ≡ length c.loop-function.items.items = search rules in
    own_turn c.deref-function-items.result.now c.loop-function.function-index c.function-item.result c.loop-function.items.items c.push.new.self.items (record { source = c.in_ok-source.source; types = c.in_ok-types.types }) _
    (omega arith) c.function-item.is c.loop-function.invariant c.in_ok-push.ensures.items same
    (c.in_ok-types.ensures ∙ ap (map (λ (p : Var × ArrayType). p.1)) c.deref.ensures.value)
