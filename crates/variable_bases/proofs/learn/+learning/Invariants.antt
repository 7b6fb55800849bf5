use Rattle.core_ir.specs.declared.tree.Block.{out-Block}
use Rattle.variable_bases.proofs.Learning.{Carried, Lets, Gens, Parts}
use Rattle.variable_bases.proofs.learn.+learning.Given as goal

abbrev pub invariant-learn_block-loop-binding : goal.invariant-learn_block-loop-binding
invariant-learn_block-loop-binding l = Carried (Lets l.signatures (out-Block l.block).results.items) l.binding-items l.binding-index l.initial.table l.table

abbrev pub invariant-learn_with-loop-generator : goal.invariant-learn_with-loop-generator
invariant-learn_with-loop-generator l = Carried (Gens l.signatures) l.generator-items l.generator-index l.initial.table l.table

abbrev pub invariant-learn_parted-loop-part : goal.invariant-learn_parted-loop-part
invariant-learn_parted-loop-part l = Carried (Parts l.signatures) l.part-items l.part-index l.initial.table l.table
