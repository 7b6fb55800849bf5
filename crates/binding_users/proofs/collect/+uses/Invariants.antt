use Rattle.std.proofs.Common.{◌≡◌, ◌++◌, drop}
use Rattle.core_subst.proofs.Occurrences.{lets_used, gens_used, parts_used}
use Rattle.binding_users.proofs.collect.+uses.Given as goal

abbrev pub invariant-add_block-loop-binding : goal.invariant-add_block-loop-binding
invariant-add_block-loop-binding l = l.out.items ++ lets_used (drop l.binding-index l.binding-items) ≡ l.initial.out.items ++ lets_used l.binding-items

abbrev pub invariant-add_with-loop-generator : goal.invariant-add_with-loop-generator
invariant-add_with-loop-generator l = l.out.items ++ gens_used (drop l.generator-index l.generator-items) ≡ l.initial.out.items ++ gens_used l.generator-items

abbrev pub invariant-add_parted-loop-part : goal.invariant-add_parted-loop-part
invariant-add_parted-loop-part l = l.out.items ++ parts_used (drop l.part-index l.part-items) ≡ l.initial.out.items ++ parts_used l.part-items
