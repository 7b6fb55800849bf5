use Rattle.std.proofs.Common.{◌≡◌, map, take}
use Rattle.core_ir.specs.View.{let_term, gen_term, part_term}
use Rattle.core_ir.proofs.copy.+copy.Given as goal

abbrev pub invariant-copy_block-loop-binding : goal.invariant-copy_block-loop-binding
invariant-copy_block-loop-binding l = map let_term l.lets.items ≡ map let_term (take l.binding-index l.binding-items)

abbrev pub invariant-copy_parted-loop-part : goal.invariant-copy_parted-loop-part
invariant-copy_parted-loop-part l = map part_term l.parts.items ≡ map part_term (take l.part-index l.part-items)

abbrev pub invariant-copy_with-loop-generator : goal.invariant-copy_with-loop-generator
invariant-copy_with-loop-generator l = map gen_term l.gens.items ≡ map gen_term (take l.generator-index l.generator-items)
