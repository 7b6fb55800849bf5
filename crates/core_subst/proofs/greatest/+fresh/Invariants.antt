use Rattle.std.proofs.Common.{◌≡◌, drop}
use Rattle.std.specs.Prelude.{max}
use Rattle.core_subst.proofs.Above.{lets_above, gens_above, parts_above}
use Rattle.core_subst.proofs.greatest.+fresh.Given as goal

abbrev pub invariant-above_block-loop-binding : goal.invariant-above_block-loop-binding
invariant-above_block-loop-binding l = max l.number (lets_above (drop l.binding-index l.binding-items)) ≡ max l.initial.number (lets_above l.binding-items)

abbrev pub invariant-above_with-loop-generator : goal.invariant-above_with-loop-generator
invariant-above_with-loop-generator l = max l.number (gens_above (drop l.generator-index l.generator-items)) ≡ max l.initial.number (gens_above l.generator-items)

abbrev pub invariant-above_parted-loop-part : goal.invariant-above_parted-loop-part
invariant-above_parted-loop-part l = max l.number (parts_above (drop l.part-index l.part-items)) ≡ max l.initial.number (parts_above l.part-items)
