use Rattle.std.proofs.Common.{◌≡◌, map, take}
use Rattle.core_ir.specs.View.{let_term, gen_term, part_term}
use Rattle.core_subst.specs.copy.Mapped.{mapped_let, mapped_gen, mapped_part}
use Rattle.core_subst.proofs.copy.naming.+copying.Given as goal

abbrev pub invariant-copy_named-loop-binding : goal.invariant-copy_named-loop-binding
invariant-copy_named-loop-binding g l = map let_term l.lets.items ≡ map (λ b. mapped_let (g.N.Naming.named l.names) (let_term b)) (take l.binding-index l.binding-items)

abbrev pub invariant-copy_parted-loop-part : goal.invariant-copy_parted-loop-part
invariant-copy_parted-loop-part g l = map part_term l.parts.items ≡ map (λ p. mapped_part (g.N.Naming.named l.names) (part_term p)) (take l.part-index l.part-items)

abbrev pub invariant-copy_with-loop-generator : goal.invariant-copy_with-loop-generator
invariant-copy_with-loop-generator g l = map gen_term l.gens.items ≡ map (λ x. mapped_gen (g.N.Naming.named l.names) (gen_term x)) (take l.generator-index l.generator-items)
