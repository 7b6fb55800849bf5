use Rattle.std.proofs.Common.{arith, refl}
use Rattle.core_subst.specs.Substitution.{image}
use Rattle.core_subst.proofs.Hiding.{below_turn, below_done, front_kept}
use Rattle.core_subst.proofs.replace.hide.Goals as goal

pub loop-var-preserved : goal.loop-var-preserved
loop-var-preserved c =
    let m = c.args.partners.now in
    let v = c.loop-var.invariant in
    record {
      outer = front_kept _ c.loop-var.hidden.items _ _ _ v.outer refl refl c.in_ok-hide_one.ensures.outer;
      below = below_turn c.args.vars.now c.loop-var.var-index _ (image m c.loop-var.hidden.items) _ _ (omega arith) c.in_ok-hide_one.ensures.below v.below;
    }

pub returns-clause-below : goal.returns-clause-below
returns-clause-below c = below_done c.args.vars.now c.loop-var.var-index (image c.args.partners.now c.loop-var.hidden.items) _ c.loop-var-test.false c.loop-var.invariant.below
