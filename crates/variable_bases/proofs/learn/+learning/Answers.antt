use Rattle.std.proofs.Common.{sym, subst, List, [], ◌∷◌, arith}
use Rattle.std.specs.Prelude.{OnOk}
use Rattle.std.proofs.lemmas.Result.{on_ok_weaker}
use Rattle.core_ir.specs.declared.tree.Block.{out-Block}
use Rattle.core_ir.specs.declared.tree.Right.{Right}
use Rattle.core_ir.specs.declared.tree.Var.{Var}
use Rattle.core_ir.specs.declared.tree.WithLoop.{out-WithLoop}
use Rattle.core_ir.specs.declared.tree.PartedLoop.{out-PartedLoop}
use Rattle.core_ir.specs.Terms.{BlockTerm, RightTerm}
use Rattle.core_ir.specs.View.{block_term, right_term}
use Rattle.core_ir.proofs.Trees.{block_out, with_out, parted_out}
use Rattle.variable_bases.specs.Learned.{Takes, LearnsBlock, LearnsRight, LearnsGens, LearnsParts, gens_in, parts_in}
use Rattle.variable_bases.specs.Table.{GroupGives, NoneGives}
use Rattle.plain_facts.proofs.known_rights.Plain.{other_plain}
use Rattle.variable_bases.proofs.Learning
use Rattle.variable_bases.proofs.learn.+learning.Goals as goal

pub learn_block-loop-binding-init : goal.learn_block-loop-binding-init
learn_block-loop-binding-init t c after rest = rest

pub learn_block-loop-binding-preserved : goal.learn_block-loop-binding-preserved
learn_block-loop-binding-preserved t c =
    let s = c.args.signatures.now in
    let x = c.binding-item.result in
    let results = (out-Block c.args.block.now).results.items in
    Learning.turned (Learning.Lets s results) (Learning.OneLet s) (Learning.next_let s results) c.deref-binding-items.result.now c.loop-binding.binding-index x c.args.table.now c.loop-binding.table c.learn_right.new.table (omega arith) c.binding-item.is c.loop-binding.invariant
    (subst (λ (xs : List Var). LearnsRight s c.loop-binding.table c.learn_right.new.table xs (right_term x.right)) c.deref.ensures.value c.in_ok-learn_right.ensures)

pub learn_block-returns : goal.learn_block-returns
learn_block-returns t c =
    let s = c.args.signatures.now in
    let b = c.args.block.now in
    let results = (out-Block b).results.items in
    subst (λ (x : BlockTerm). LearnsBlock s c.args.table.now c.loop-binding.table x) (sym (block_out b))
    (Learning.ended (Learning.Lets s results) c.deref-binding-items.result.now (out-Block b).lets.items c.loop-binding.binding-index c.args.table.now c.loop-binding.table (Learning.lets_none s results c.loop-binding.table) c.loop-binding-test.false c.deref-binding-items.ensures.value c.loop-binding.invariant)

pub learn_with-loop-generator-init : goal.learn_with-loop-generator-init
learn_with-loop-generator-init t c after rest = rest

pub learn_with-loop-generator-preserved : goal.learn_with-loop-generator-preserved
learn_with-loop-generator-preserved t c =
    let s = c.args.signatures.now in
    Learning.turned (Learning.Gens s) (Learning.OneGen s) (Learning.next_gen s) c.deref-generator-items.result.now c.loop-generator.generator-index c.generator-item.result c.args.table.now c.loop-generator.table c.learn_generator.new.table (omega arith) c.generator-item.is c.loop-generator.invariant c.in_ok-learn_generator.ensures

pub learn_with-returns : goal.learn_with-returns
learn_with-returns t c =
    let s = c.args.signatures.now in
    let w = c.args.with.now in
    subst (λ (r : RightTerm). LearnsGens s c.args.table.now c.loop-generator.table (gens_in r)) (sym (with_out w))
    (Learning.ended (Learning.Gens s) c.deref-generator-items.result.now (out-WithLoop w).gens.items c.loop-generator.generator-index c.args.table.now c.loop-generator.table (Learning.gens_none s c.loop-generator.table) c.loop-generator-test.false c.deref-generator-items.ensures.value c.loop-generator.invariant)

pub learn_parted-loop-part-init : goal.learn_parted-loop-part-init
learn_parted-loop-part-init t c after rest = rest

pub learn_parted-loop-part-preserved : goal.learn_parted-loop-part-preserved
learn_parted-loop-part-preserved t c =
    let s = c.args.signatures.now in
    Learning.turned (Learning.Parts s) (Learning.OnePart s) (Learning.next_part s) c.deref-part-items.result.now c.loop-part.part-index c.part-item.result c.args.table.now c.loop-part.table c.learn_part.new.table (omega arith) c.part-item.is c.loop-part.invariant c.in_ok-learn_part.ensures

pub learn_parted-returns : goal.learn_parted-returns
learn_parted-returns t c =
    let s = c.args.signatures.now in
    let p = c.args.parted.now in
    subst (λ (r : RightTerm). LearnsParts s c.args.table.now c.loop-part.table (parts_in r)) (sym (parted_out p))
    (Learning.ended (Learning.Parts s) c.deref-part-items.result.now (out-PartedLoop p).parts.items c.loop-part.part-index c.args.table.now c.loop-part.table (Learning.parts_none s c.loop-part.table) c.loop-part-test.false c.deref-part-items.ensures.value c.loop-part.invariant)

pub learn_generator-returns : goal.learn_generator-returns
learn_generator-returns t c =
    let g = c.args.generator.now in
    on_ok_weaker c.learn_block.result
    (Learning.whole_gen c.args.signatures.now g c.args.table.now c.note_numbers.new.self c.note_numbers-2.new.self c.learn_block.new.table c.deref.result.now c.in_ok-note_numbers.ensures c.deref.ensures.value c.in_ok-note_numbers-2.ensures)
    c.learn_block.ensures

pub learn_part-returns : goal.learn_part-returns
learn_part-returns t c =
    on_ok_weaker c.learn_block.result
    (Learning.whole_part c.args.signatures.now c.args.part.now c.args.table.now c.note_numbers.new.self c.learn_block.new.table c.in_ok-note_numbers.ensures)
    c.learn_block.ensures

pub learn_right-returns-in_ok-take_each-in-If : goal.learn_right-returns-in_ok-take_each-in-If
learn_right-returns-in_ok-take_each-in-If t c =
    let s = c.args.signatures.now in
    let xs = c.args.targets.now in
    let before = c.learn_block-in-If.new.table in
    let between = c.take_each.new.self in
    let after = c.take_each-in-If.new.self in
    let learned = λ (no_taken : Takes xs c.deref-in-If.result.now between after).
    Learning.if_learned s c.args.table.now c.learn_block.new.table before between after xs c.in-If.cond (block_term c.in-If.yes) (block_term c.in-If.no)
    c.in_ok-learn_block-in-If.ensures c.in_ok-learn_block-in-If-2.ensures
    (Learning.takes_results xs c.deref.result.now c.in-If.yes before between c.deref.ensures.value c.in_ok-take_each-in-If.ensures)
    (Learning.takes_results xs c.deref-in-If.result.now c.in-If.no between after c.deref-in-If.ensures.value no_taken) in
    subst (λ (r : Right). OnOk c.take_each-in-If.result (LearnsRight s c.args.table.now after xs (right_term r))) (sym c.in-If.is)
    (on_ok_weaker c.take_each-in-If.result learned c.take_each-in-If.ensures)

pub learn_right-returns-in_ok-learn_block-in-Loop-2 : goal.learn_right-returns-in_ok-learn_block-in-Loop-2
learn_right-returns-in_ok-learn_block-in-Loop-2 t c =
    let s = c.args.signatures.now in
    let xs = c.args.targets.now in
    let l = c.in-Loop in
    let begin : Takes l.params.items l.start.items c.args.table.now c.take_each-in-Loop.new.self =
    subst (λ ys. Takes l.params.items ys c.args.table.now c.take_each-in-Loop.new.self) c.deref-in-Loop-2.ensures.value
    (subst (λ ys. Takes ys c.deref-in-Loop-2.result.now c.args.table.now c.take_each-in-Loop.new.self) c.deref-in-Loop.ensures.value c.in_ok-take_each-in-Loop.ensures) in
    let after = c.take_each-in-Loop-2.new.self in
    let before = c.learn_block-in-Loop-2.new.table in
    let learned = λ (leave : Takes xs c.deref-in-Loop-3.result.now before after).
    Learning.loop_learned s c.args.table.now c.take_each-in-Loop.new.self c.learn_block-in-Loop.new.table before after xs l.first_body l.start.items l.params.items (block_term l.test) (block_term l.body) l.test_site
    begin c.in_ok-learn_block-in-Loop.ensures c.in_ok-learn_block-in-Loop-2.ensures (subst (λ ys. Takes xs ys before after) c.deref-in-Loop-3.ensures.value leave) in
    subst (λ (r : Right). OnOk c.take_each-in-Loop-2.result (LearnsRight s c.args.table.now after xs (right_term r))) (sym l.is)
    (on_ok_weaker c.take_each-in-Loop-2.result learned c.take_each-in-Loop-2.ensures)

pub learn_right-returns-in-Some : goal.learn_right-returns-in-Some
learn_right-returns-in-Some t c =
    let s = c.args.signatures.now in
    let xs = c.args.targets.now in
    let gives = c.in-Some.gives.now in
    let after = c.note_each.new.self in
    let all : GroupGives s c.in-Call.group c.in-Call.args.items c.args.table.now gives =
    subst (λ ys. GroupGives s c.in-Call.group ys c.args.table.now gives) c.deref-in-Call.ensures.value c.in-Some.ensures.some in
    subst (λ (r : Right). OnOk c.note_each.result (LearnsRight s c.args.table.now after xs (right_term r))) (sym c.in-Call.is)
    (on_ok_weaker c.note_each.result (Learning.call_learned s c.args.table.now after xs c.in-Call.group c.in-Call.args.items gives all) c.note_each.ensures)

pub learn_right-returns-in_ok-learn_with-in-With : goal.learn_right-returns-in_ok-learn_with-in-With
learn_right-returns-in_ok-learn_with-in-With t c =
    let s = c.args.signatures.now in
    let xs = c.args.targets.now in
    let w = c.in-With.w in
    let before = c.learn_with.new.table in
    let after = c.take_each-in-With.new.self in
    let learned = λ (take : Takes xs (c.source.result ∷ []) before after).
    Learning.whole_with s w c.args.table.now before after xs c.in_ok-learn_with-in-With.ensures (subst (λ (y : Var). Takes xs (y ∷ []) before after) c.source.ensures take) in
    subst (λ (r : Right). OnOk c.take_each-in-With.result (LearnsRight s c.args.table.now after xs (right_term r))) (sym c.in-With.is)
    (on_ok_weaker c.take_each-in-With.result learned c.take_each-in-With.ensures)

pub learn_right-returns-in_ok-learn_parted-in-Parted : goal.learn_right-returns-in_ok-learn_parted-in-Parted
learn_right-returns-in_ok-learn_parted-in-Parted t c =
    let s = c.args.signatures.now in
    let xs = c.args.targets.now in
    let after = c.note_each-in-Parted.new.self in
    subst (λ (r : Right). OnOk c.note_each-in-Parted.result (LearnsRight s c.args.table.now after xs (right_term r))) (sym c.in-Parted.is)
    (on_ok_weaker c.note_each-in-Parted.result (Learning.whole_parted s c.in-Parted.p c.args.table.now c.learn_parted.new.table after xs c.in_ok-learn_parted-in-Parted.ensures) c.note_each-in-Parted.ensures)

pub learn_right-returns-in-None : goal.learn_right-returns-in-None
learn_right-returns-in-None t c =
    let s = c.args.signatures.now in
    let table = c.args.table.now in
    let none : NoneGives s c.in-Call.group c.in-Call.args.items table = subst (λ ys. NoneGives s c.in-Call.group ys table) c.deref-in-Call.ensures.value c.in-None.ensures.none in
    subst (λ (r : Right). LearnsRight s table table c.args.targets.now (right_term r)) (sym c.in-Call.is) (Learning.call_unknown s table c.args.targets.now c.in-Call.group c.in-Call.args.items none)

pub learn_right-returns-in-None-plain_base : goal.learn_right-returns-in-None-plain_base
learn_right-returns-in-None-plain_base t c =
    let r = c.args.right.now in
    let arm = c.in_default in
    let plain = other_plain r (arm.not-If, arm.not-Loop, arm.not-Call, arm.not-With, arm.not-Parted) in
    Learning.right_unknown c.args.signatures.now c.args.table.now c.args.targets.now (right_term r) plain.0 plain.1 c.in-None-plain_base.ensures.none

pub learn_right-returns-in-Some-plain_base : goal.learn_right-returns-in-Some-plain_base
learn_right-returns-in-Some-plain_base t c =
    let s = c.args.signatures.now in
    let xs = c.args.targets.now in
    let r = c.args.right.now in
    let after = c.note_each-in-Some-plain_base.new.self in
    let arm = c.in_default in
    let plain = other_plain r (arm.not-If, arm.not-Loop, arm.not-Call, arm.not-With, arm.not-Parted) in
    on_ok_weaker c.note_each-in-Some-plain_base.result
    (Learning.right_learned s c.args.table.now after xs (right_term r) plain.0 c.in-Some-plain_base.base plain.1 c.in-Some-plain_base.ensures.some) c.note_each-in-Some-plain_base.ensures
