use Rattle.std.proofs.Common.{◌≡◌, ◌++◌, drop}
use Rattle.core_subst.proofs.Occurrences.{lets_bound, gens_bound, parts_bound}
use Rattle.parted_bodies.proofs.binders.+binding.Given as goal

abbrev pub invariant-add_block-loop-binding : goal.invariant-add_block-loop-binding
invariant-add_block-loop-binding l = l.bound.items ++ lets_bound (drop l.binding-index l.binding-items) ≡ l.initial.bound.items ++ lets_bound l.binding-items

abbrev pub invariant-add_with-loop-generator : goal.invariant-add_with-loop-generator
invariant-add_with-loop-generator l = l.bound.items ++ gens_bound (drop l.generator-index l.generator-items) ≡ l.initial.bound.items ++ gens_bound l.generator-items

abbrev pub invariant-add_parted-loop-part : goal.invariant-add_parted-loop-part
invariant-add_parted-loop-part l = l.bound.items ++ parts_bound (drop l.part-index l.part-items) ≡ l.initial.bound.items ++ parts_bound l.part-items
