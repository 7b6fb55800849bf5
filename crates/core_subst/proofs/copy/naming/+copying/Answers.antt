use Rattle.std.proofs.Common.{arith, map, refl, sym, ◌∙◌}
use Rattle.core_ir.specs.Terms.{PlainTerm, RightTerm, Plain}
use Rattle.core_ir.specs.View.{right_term, let_term, gen_term, part_term}
use Rattle.core_subst.specs.copy.Mapped.{mapped_right, mapped_let, mapped_gen, mapped_part}
use Rattle.core_subst.proofs.copy.Steps.{item_copied, mapped_whole, block_copied, with_copied, parted_copied}
use Rattle.core_subst.proofs.copy.naming.+copying.Goals as goal

pub copy_named-returns : goal.copy_named-returns
copy_named-returns g t c =
    let f = g.N.Naming.named c.args.names.now in
    let p = mapped_whole let_term (λ b. mapped_let f (let_term b)) _ c.deref-binding-items.result.now c.loop-binding.binding-index _ c.loop-binding.invariant (omega arith) c.deref-binding-items.ensures.value in
    block_copied f _ c.args.block.now p (c.in_ok-copy_vars.ensures ∙ (λ i. map f (c.deref.ensures.value i)))

pub copy_parted-returns : goal.copy_parted-returns
copy_parted-returns g t c =
    let f = g.N.Naming.named c.args.names.now in
    let p = mapped_whole part_term (λ b. mapped_part f (part_term b)) _ c.deref-part-items.result.now c.loop-part.part-index _ c.loop-part.invariant (omega arith) c.deref-part-items.ensures.value in
    parted_copied f _ c.args.parted.now p c.copy_parted_op.ensures c.in_ok-frame.ensures refl c.copy-cell.ensures

pub copy_with-returns : goal.copy_with-returns
copy_with-returns g t c =
    let f = g.N.Naming.named c.args.names.now in
    let p = mapped_whole gen_term (λ b. mapped_gen f (gen_term b)) _ c.deref-generator-items.result.now c.loop-generator.generator-index _ c.loop-generator.invariant (omega arith) c.deref-generator-items.ensures.value in
    with_copied f _ c.args.with.now p c.copy_op.ensures

pub copy_right-returns-in_ok-copy_array-in-Const : goal.copy_right-returns-in_ok-copy_array-in-Const
copy_right-returns-in_ok-copy_array-in-Const g t c =
    let f = g.N.Naming.named c.args.names.now in
    (λ i. Plain (PlainTerm.Const (c.in_ok-copy_array-in-Const.ensures i))) ∙ (λ i. mapped_right f (right_term (sym c.in-Const.is i)))

pub copy_right-returns-in-Copy : goal.copy_right-returns-in-Copy
copy_right-returns-in-Copy g t c =
    let f = g.N.Naming.named c.args.names.now in
    (λ i. Plain (PlainTerm.Copy (c.name.ensures i))) ∙ (λ i. mapped_right f (right_term (sym c.in-Copy.is i)))

pub copy_right-returns-in-Unary : goal.copy_right-returns-in-Unary
copy_right-returns-in-Unary g t c =
    let f = g.N.Naming.named c.args.names.now in
    (λ i. Plain (PlainTerm.Unary c.in-Unary.op (c.name-in-Unary.ensures i))) ∙ (λ i. mapped_right f (right_term (sym c.in-Unary.is i)))

pub copy_right-returns-in-Binary : goal.copy_right-returns-in-Binary
copy_right-returns-in-Binary g t c =
    let f = g.N.Naming.named c.args.names.now in
    (λ i. Plain (PlainTerm.Binary c.in-Binary.op (c.name-in-Binary.ensures i) (c.name-in-Binary-2.ensures i))) ∙ (λ i. mapped_right f (right_term (sym c.in-Binary.is i)))

pub copy_right-returns-in_ok-copy_vars-in-Literal : goal.copy_right-returns-in_ok-copy_vars-in-Literal
copy_right-returns-in_ok-copy_vars-in-Literal g t c =
    let f = g.N.Naming.named c.args.names.now in
    let xs = c.in_ok-copy_vars-in-Literal.ensures ∙ (λ i. map f (c.deref.ensures.value i)) in
    (λ i. Plain (PlainTerm.Literal (xs i))) ∙ (λ i. mapped_right f (right_term (sym c.in-Literal.is i)))

pub copy_right-returns-in-Dim : goal.copy_right-returns-in-Dim
copy_right-returns-in-Dim g t c =
    let f = g.N.Naming.named c.args.names.now in
    (λ i. Plain (PlainTerm.Dim (c.name-in-Dim.ensures i))) ∙ (λ i. mapped_right f (right_term (sym c.in-Dim.is i)))

pub copy_right-returns-in-ShapeOf : goal.copy_right-returns-in-ShapeOf
copy_right-returns-in-ShapeOf g t c =
    let f = g.N.Naming.named c.args.names.now in
    (λ i. Plain (PlainTerm.ShapeOf (c.name-in-ShapeOf.ensures i))) ∙ (λ i. mapped_right f (right_term (sym c.in-ShapeOf.is i)))

pub copy_right-returns-in-Reshape : goal.copy_right-returns-in-Reshape
copy_right-returns-in-Reshape g t c =
    let f = g.N.Naming.named c.args.names.now in
    (λ i. Plain (PlainTerm.Reshape (c.name-in-Reshape.ensures i) (c.name-in-Reshape-2.ensures i))) ∙ (λ i. mapped_right f (right_term (sym c.in-Reshape.is i)))

pub copy_right-returns-in-Select : goal.copy_right-returns-in-Select
copy_right-returns-in-Select g t c =
    let f = g.N.Naming.named c.args.names.now in
    (λ i. Plain (PlainTerm.Select (c.name-in-Select.ensures i) (c.name-in-Select-2.ensures i))) ∙ (λ i. mapped_right f (right_term (sym c.in-Select.is i)))

pub copy_right-returns-in-Replace : goal.copy_right-returns-in-Replace
copy_right-returns-in-Replace g t c =
    let f = g.N.Naming.named c.args.names.now in
    (λ i. Plain (PlainTerm.Replace (c.name-in-Replace.ensures i) (c.name-in-Replace-2.ensures i) (c.name-in-Replace-3.ensures i))) ∙ (λ i. mapped_right f (right_term (sym c.in-Replace.is i)))

pub copy_right-returns-in_ok-copy_named-in-If-2 : goal.copy_right-returns-in_ok-copy_named-in-If-2
copy_right-returns-in_ok-copy_named-in-If-2 g t c =
    let f = g.N.Naming.named c.args.names.now in
    (λ i. RightTerm.If (c.name-in-If.ensures i) (c.in_ok-copy_named-in-If.ensures i) (c.in_ok-copy_named-in-If-2.ensures i)) ∙ (λ i. mapped_right f (right_term (sym c.in-If.is i)))

pub copy_right-returns-in_ok-copy_named-in-Loop-2 : goal.copy_right-returns-in_ok-copy_named-in-Loop-2
copy_right-returns-in_ok-copy_named-in-Loop-2 g t c =
    let f = g.N.Naming.named c.args.names.now in
    let start = c.in_ok-copy_vars-in-Loop.ensures ∙ (λ i. map f (c.deref-in-Loop.ensures.value i)) in
    let params = c.in_ok-copy_vars-in-Loop-2.ensures ∙ (λ i. map f (c.deref-in-Loop-2.ensures.value i)) in
    (λ i. RightTerm.Loop c.in-Loop.first_body (start i) (params i) (c.in_ok-copy_named-in-Loop.ensures i) (c.in_ok-copy_named-in-Loop-2.ensures i) c.in-Loop.test_site) ∙ (λ i. mapped_right f (right_term (sym c.in-Loop.is i)))

pub copy_right-returns-in_ok-copy_vars-in-Call : goal.copy_right-returns-in_ok-copy_vars-in-Call
copy_right-returns-in_ok-copy_vars-in-Call g t c =
    let f = g.N.Naming.named c.args.names.now in
    let xs = c.in_ok-copy_vars-in-Call.ensures ∙ (λ i. map f (c.deref-in-Call.ensures.value i)) in
    (λ i. RightTerm.Call c.in-Call.group (xs i)) ∙ (λ i. mapped_right f (right_term (sym c.in-Call.is i)))

pub copy_right-returns-in_ok-copy_with-in-With : goal.copy_right-returns-in_ok-copy_with-in-With
copy_right-returns-in_ok-copy_with-in-With g t c =
    let f = g.N.Naming.named c.args.names.now in
    c.in_ok-copy_with-in-With.ensures ∙ (λ i. mapped_right f (right_term (sym c.in-With.is i)))

pub copy_right-returns-in_ok-copy_parted-in-Parted : goal.copy_right-returns-in_ok-copy_parted-in-Parted
copy_right-returns-in_ok-copy_parted-in-Parted g t c =
    let f = g.N.Naming.named c.args.names.now in
    c.in_ok-copy_parted-in-Parted.ensures ∙ (λ i. mapped_right f (right_term (sym c.in-Parted.is i)))

pub copy_right-returns-in-Always : goal.copy_right-returns-in-Always
copy_right-returns-in-Always g t c =
    let f = g.N.Naming.named c.args.names.now in
    (λ i. mapped_right f (right_term (sym c.in-Always.is i)))

pub copy_right-returns-in-Check : goal.copy_right-returns-in-Check
copy_right-returns-in-Check g t c =
    let f = g.N.Naming.named c.args.names.now in
    (λ i. Plain (PlainTerm.Check (c.name-in-Check.ensures i) (c.copy_type.ensures i))) ∙ (λ i. mapped_right f (right_term (sym c.in-Check.is i)))

pub copy_named-loop-binding-preserved : goal.copy_named-loop-binding-preserved
copy_named-loop-binding-preserved g t c =
    let f = g.N.Naming.named c.args.names.now in
    item_copied let_term (λ b. mapped_let f (let_term b)) c.loop-binding.lets.items c.push.new.self.items c.deref-binding-items.result.now c.loop-binding.binding-index c.in_ok-copy_let.field-0 c.binding-item.result c.loop-binding-test.true c.binding-item.is c.in_ok-push.ensures.items c.in_ok-copy_let.ensures c.loop-binding.invariant

pub copy_parted-loop-part-preserved : goal.copy_parted-loop-part-preserved
copy_parted-loop-part-preserved g t c =
    let f = g.N.Naming.named c.args.names.now in
    item_copied part_term (λ b. mapped_part f (part_term b)) c.loop-part.parts.items c.push.new.self.items c.deref-part-items.result.now c.loop-part.part-index c.in_ok-copy_part.field-0 c.part-item.result c.loop-part-test.true c.part-item.is c.in_ok-push.ensures.items c.in_ok-copy_part.ensures c.loop-part.invariant

pub copy_with-loop-generator-preserved : goal.copy_with-loop-generator-preserved
copy_with-loop-generator-preserved g t c =
    let f = g.N.Naming.named c.args.names.now in
    item_copied gen_term (λ b. mapped_gen f (gen_term b)) c.loop-generator.gens.items c.push.new.self.items c.deref-generator-items.result.now c.loop-generator.generator-index c.in_ok-copy_gen.field-0 c.generator-item.result c.loop-generator-test.true c.generator-item.is c.in_ok-push.ensures.items c.in_ok-copy_gen.ensures c.loop-generator.invariant

pub copy_let-returns : goal.copy_let-returns
copy_let-returns g t c =
    let f = g.N.Naming.named c.args.names.now in
    let xs = c.in_ok-copy_vars.ensures ∙ (λ i. map f (c.deref.ensures.value i)) in
    λ i. record { targets = xs i; site = c.args.binding.now.site; right = c.in_ok-copy_right.ensures i }
