use Rattle.std.proofs.Common.{[], ◌∷◌}
use Rattle.core_ir.specs.View.{block_term}
use Rattle.core_subst.specs.Names.{used_in}
use Rattle.removal_rules.proofs.Sets.{in_front_of_both}
use Rattle.unused_bindings.proofs.right.conditional.Goals as goal

pub invariant_of-result : goal.invariant_of-result
invariant_of-result c = record {
  uses = in_front_of_both (c.args.cond ∷ []) (used_in (block_term c.args.yes.block)) (used_in (block_term c.args.no.block)) _ _ _ _ c.args.yes.uses c.args.no.uses c.in_ok-used.ensures c.in_ok-add_all.ensures;
}
