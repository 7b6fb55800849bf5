use Rattle.std.proofs.Common.{◌≡◌, ◌++◌, drop}
use Rattle.ref_counts.proofs.Collected.{let_listed, gen_listed, part_listed}
use Rattle.ref_counts.proofs.uses.+uses.Given as goal

abbrev pub invariant-add_block-loop-binding : goal.invariant-add_block-loop-binding
invariant-add_block-loop-binding l = l.out.items ++ let_listed (drop l.binding-index l.binding-items) ≡ l.initial.out.items ++ let_listed l.binding-items

abbrev pub invariant-add_with-loop-generator : goal.invariant-add_with-loop-generator
invariant-add_with-loop-generator l = l.out.items ++ gen_listed (drop l.generator-index l.generator-items) ≡ l.initial.out.items ++ gen_listed l.generator-items

abbrev pub invariant-add_parted-loop-part : goal.invariant-add_parted-loop-part
invariant-add_parted-loop-part l = l.out.items ++ part_listed (drop l.part-index l.part-items) ≡ l.initial.out.items ++ part_listed l.part-items
