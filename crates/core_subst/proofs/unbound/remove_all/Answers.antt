use Rattle.std.proofs.Common.{arith, ◌&&◌, not}
use Rattle.std.specs.Ordering.{nat_cmp}
use Rattle.std.specs.BTreeSet.{contains}
use Rattle.core_ir.specs.Binders.{is_in}
use Rattle.core_subst.specs.Names.{variable}
use Rattle.core_subst.proofs.Numbers.{remove_turn}
use Rattle.core_subst.proofs.unbound.remove_all.Goals as goal

pub loop-var-preserved : goal.loop-var-preserved
loop-var-preserved c =
    remove_turn c.args.vars.now c.loop-var.var-index _ (contains nat_cmp c.loop-var.numbers) (contains nat_cmp c.remove.new.self) (λ n. contains nat_cmp c.args.numbers.now n && not (is_in (variable n) c.args.vars.now)) (omega arith) c.remove.ensures.updates.0 c.loop-var.invariant
