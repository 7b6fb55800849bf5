use Rattle.std.proofs.Common.{arith}
use Rattle.core_subst.proofs.copy.Steps.{var_copied}
use Rattle.core_subst.proofs.copy.naming.copy_vars.Goals as goal

pub loop-var-preserved : goal.loop-var-preserved
loop-var-preserved g c =
    var_copied (g.N.Naming.named c.args.names.now) c.args.vars.now c.loop-var.var-index _ c.name.result c.loop-var.copied.items c.push.new.self.items (omega arith) c.loop-var.invariant c.in_ok-push.ensures.items c.name.ensures
