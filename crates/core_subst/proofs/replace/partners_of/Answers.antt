use Rattle.std.proofs.Common.{arith}
use Rattle.std.specs.Ordering.{nat_cmp}
use Rattle.std.specs.BTreeMap.{get}
use Rattle.core_subst.specs.Substitution.{partner}
use Rattle.core_subst.proofs.Hiding.{pair_turn}
use Rattle.core_subst.proofs.replace.partners_of.Goals as goal

pub loop-from-preserved : goal.loop-from-preserved
loop-from-preserved c =
    pair_turn c.args.pairs.now c.loop-from.from-index _ (get nat_cmp c.loop-from.partners) (get nat_cmp c.add_pair.new.partners) (partner c.args.pairs.now) (omega arith) c.in_ok-add_pair.ensures c.loop-from.invariant
