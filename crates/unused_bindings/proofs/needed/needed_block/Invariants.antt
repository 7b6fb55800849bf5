use Rattle.std.proofs.Common.{◌≡◌, map, reverse}
use Rattle.core_ir.specs.Terms.{Gives, chain}
use Rattle.core_ir.specs.View.{let_term}
use Rattle.core_subst.specs.Names.{used_in}
use Rattle.unused_bindings.specs.Passed.{passed_term}
use Rattle.unused_bindings.specs.Swept.{needed_before}
use Rattle.removal_rules.specs.Uses.{used_of, among}
use Rattle.unused_bindings.proofs.needed.needed_block.Given as goal

abbrev pub invariant-loop-last : goal.invariant-loop-last
invariant-loop-last l = record {
  bindings : needed_before (map passed_term l.rest.items) (chain (reverse (map let_term l.kept.items)) (Gives l.results.items)) ≡ needed_before (map passed_term l.initial.rest.items) (Gives l.results.items);
  used : used_of l.used ≡ among (used_in (chain (reverse (map let_term l.kept.items)) (Gives l.results.items)));
}

abbrev pub decreases-loop-last : goal.decreases-loop-last
decreases-loop-last l = l.rest.len
