use Rattle.std.proofs.Common.{refl, sym, ap, ◌∙◌, ◌++◌, arith}
use Rattle.core_ir.specs.declared.tree.Block.{out-Block}
use Rattle.core_ir.specs.declared.tree.WithLoop.{out-WithLoop}
use Rattle.core_ir.specs.declared.tree.PartedLoop.{out-PartedLoop}
use Rattle.core_ir.specs.View.{right_term, gen_term, part_term}
use Rattle.core_ir.specs.WellFormed.{calls_in, calls_in_right}
use Rattle.unreached_functions.proofs.Called.{lets_calls, gens_calls, parts_calls, block_calls, with_calls, parted_calls, all_met, turned, let_calls, gen_calls, part_calls, gen_body, part_body}
use Rattle.unreached_functions.proofs.calls.+calls.Goals as goal

pub add_calls-loop-binding-preserved : goal.add_calls-loop-binding-preserved
add_calls-loop-binding-preserved t c =
    turned lets_calls (λ y. calls_in_right (right_term y.right)) c.deref-binding-items.result.now c.loop-binding.binding-index c.binding-item.result c.loop-binding.groups.items c.add_calls_right.new.groups.items _ let_calls (omega arith) c.binding-item.is c.loop-binding.invariant c.in_ok-add_calls_right.ensures

pub add_calls-returns : goal.add_calls-returns
add_calls-returns t c =
    all_met lets_calls c.loop-binding.groups.items c.args.groups.now.items c.loop-binding.binding-index c.deref-binding-items.result.now (out-Block c.args.block.now).lets.items refl c.loop-binding.invariant c.loop-binding-test.false c.deref-binding-items.ensures.value
    ∙ ap (λ l. c.args.groups.now.items ++ l) (sym (block_calls c.args.block.now))

pub add_calls_with-loop-generator-preserved : goal.add_calls_with-loop-generator-preserved
add_calls_with-loop-generator-preserved t c =
    turned gens_calls (λ y. calls_in (gen_term y).body) c.deref-generator-items.result.now c.loop-generator.generator-index c.generator-item.result c.loop-generator.groups.items c.add_calls.new.groups.items _ gen_calls (omega arith) c.generator-item.is c.loop-generator.invariant (c.in_ok-add_calls.ensures ∙ ap (λ b. c.loop-generator.groups.items ++ calls_in b) (gen_body c.generator-item.result))

pub add_calls_with-returns : goal.add_calls_with-returns
add_calls_with-returns t c =
    all_met gens_calls c.loop-generator.groups.items c.args.groups.now.items c.loop-generator.generator-index c.deref-generator-items.result.now (out-WithLoop c.args.with.now).gens.items refl c.loop-generator.invariant c.loop-generator-test.false c.deref-generator-items.ensures.value
    ∙ ap (λ l. c.args.groups.now.items ++ l) (sym (with_calls c.args.with.now))

pub add_calls_parted-loop-part-preserved : goal.add_calls_parted-loop-part-preserved
add_calls_parted-loop-part-preserved t c =
    turned parts_calls (λ y. calls_in (part_term y).body) c.deref-part-items.result.now c.loop-part.part-index c.part-item.result c.loop-part.groups.items c.add_calls.new.groups.items _ part_calls (omega arith) c.part-item.is c.loop-part.invariant (c.in_ok-add_calls.ensures ∙ ap (λ b. c.loop-part.groups.items ++ calls_in b) (part_body c.part-item.result))

pub add_calls_parted-returns : goal.add_calls_parted-returns
add_calls_parted-returns t c =
    all_met parts_calls c.loop-part.groups.items c.args.groups.now.items c.loop-part.part-index c.deref-part-items.result.now (out-PartedLoop c.args.parted.now).parts.items refl c.loop-part.invariant c.loop-part-test.false c.deref-part-items.ensures.value
    ∙ ap (λ l. c.args.groups.now.items ++ l) (sym (parted_calls c.args.parted.now))
