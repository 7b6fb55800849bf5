use Rattle.std.proofs.Common.{◌||◌}
use Rattle.std.specs.Ordering.{nat_cmp}
use Rattle.std.specs.BTreeSet.{contains}
use Rattle.core_ir.specs.Binders.{is_in}
use Rattle.core_subst.specs.Names.{variable}
use Rattle.core_subst.proofs.Numbers.{insert_turn}
use Rattle.removal_rules.proofs.Sets.{inserted}
use Rattle.removal_rules.proofs.used.add_all.Goals as goal

pub loop-var-preserved : goal.loop-var-preserved
loop-var-preserved c =
    insert_turn c.args.vars.now c.loop-var.var-index _ (contains nat_cmp c.loop-var.used) (contains nat_cmp c.insert.new.self) (λ n. contains nat_cmp c.args.used.now n || is_in (variable n) c.args.vars.now) c.loop-var-test.true c.in_ok-insert.ensures.updates.0 c.loop-var.invariant

pub returns : goal.returns
returns c = inserted c.loop-var.used c.args.used.now c.args.vars.now c.loop-var.var-index c.loop-var-test.false c.loop-var.invariant
