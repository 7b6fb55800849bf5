use Rattle.std.proofs.Common.{◌∙◌}
use Rattle.core_ir.specs.View.{block_term}
use Rattle.core_subst.specs.Names.{used_in}
use Rattle.removal_rules.specs.Uses.{used_of, either, among}
use Rattle.removal_rules.proofs.Sets.{in_front_of_both}
use Rattle.unused_bindings.proofs.right.repeated.Goals as goal

pub invariant_of-result : goal.invariant_of-result
invariant_of-result c = record {
  uses = in_front_of_both c.args.start.items (used_in (block_term c.args.test.block)) (used_in (block_term c.args.body.block)) _ _ _ _ c.args.test.uses c.args.body.uses c.in_ok-used.ensures
      (c.in_ok-add_all.ensures ∙ (λ i. either (used_of c.in_ok-used.used) (among (c.deref.ensures.value i))));
}
