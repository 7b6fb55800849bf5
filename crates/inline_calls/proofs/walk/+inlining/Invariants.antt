use Rattle.std.proofs.Common.{map, take}
use Rattle.core_ir.specs.View.{core_term, let_term, gen_term, part_term}
use Rattle.inline_calls.proofs.Turns.{SoFar, GensSoFar, PartsSoFar}
use Rattle.inline_calls.proofs.walk.+inlining.Given as goal

abbrev pub invariant-inline_block-loop-binding : goal.invariant-inline_block-loop-binding
invariant-inline_block-loop-binding l = SoFar (core_term l.work.core.now) l.initial.growth (map let_term (take l.binding-index l.binding-items)) (map let_term l.lets.items) l.growth

abbrev pub invariant-inline_parted-loop-part : goal.invariant-inline_parted-loop-part
invariant-inline_parted-loop-part l = PartsSoFar (core_term l.work.core.now) l.initial.growth (map part_term (take l.part-index l.part-items)) (map part_term l.parts.items) l.growth

abbrev pub invariant-inline_with-loop-generator : goal.invariant-inline_with-loop-generator
invariant-inline_with-loop-generator l = GensSoFar (core_term l.work.core.now) l.initial.growth (map gen_term (take l.generator-index l.generator-items)) (map gen_term l.gens.items) l.growth
