use Rattle.std.proofs.Common.{sym, subst, List, Ok}
use Rattle.sac_base.specs.Outcomes.{at_site}
use Rattle.sac_base.specs.Parts.{literal}
use Rattle.core_ir.specs.declared.tree.Var.{Var}
use Rattle.counted_code.specs.declared.tree.CodeRight.{CodeRight}
use Rattle.counted_code.specs.View.{code_right_term}
use Rattle.run_store.specs.Stands.{TellsPlaced}
use Rattle.run_values.specs.Scopes.{current}
use Rattle.run_values.specs.Shown.{value_of}
use Rattle.run_plain.specs.Reads.{arrays_of, TellsPlain}
use Rattle.run_plain.proofs.Rights.{dim_plain, literal_plain, replace_plain, shape_plain}
use Rattle.run_plain.proofs.right.other_value.Goals as goal

pub returns-in-Literal-clause-told : goal.returns-in-Literal-clause-told
returns-in-Literal-clause-told c m stands =
    let e = current c.args.frames.now in
    let r = c.literal_value.result in
    let h = c.literal_value.new.heap in
    subst (λ (t : CodeRight). TellsPlain (code_right_term t) c.args.site e r h m) (sym c.in-Literal.is)
    (literal_plain r h m c.args.site e c.in-Literal.xs.items (subst (λ (xs : List Var). TellsPlaced r h m (at_site c.args.site (literal (arrays_of m e xs)))) c.deref.ensures.value (c.literal_value.ensures.told m stands)))

pub returns-in-Dim-clause-told : goal.returns-in-Dim-clause-told
returns-in-Dim-clause-told c m stands =
    let e = current c.args.frames.now in
    let h = c.args.heap.now in
    subst (λ (t : CodeRight). TellsPlain (code_right_term t) c.args.site e (Ok c.dim_value.result) h m) (sym c.in-Dim.is)
    (dim_plain h m c.args.site e c.in-Dim.x (value_of c.get.result) c.dim_value.result c.get.ensures stands (c.dim_value.ensures m))

pub returns-in-ShapeOf-clause-told : goal.returns-in-ShapeOf-clause-told
returns-in-ShapeOf-clause-told c m stands =
    let e = current c.args.frames.now in
    let r = c.shape_value.result in
    let h = c.args.heap.now in
    subst (λ (t : CodeRight). TellsPlain (code_right_term t) c.args.site e r h m) (sym c.in-ShapeOf.is)
    (shape_plain r h m c.args.site e c.in-ShapeOf.x (value_of c.get-in-ShapeOf.result) c.get-in-ShapeOf.ensures (c.shape_value.ensures h m stands))

pub returns-in-Replace-clause-told : goal.returns-in-Replace-clause-told
returns-in-Replace-clause-told c m stands =
    let e = current c.args.frames.now in
    let r = c.replace_value.result in
    let h = c.replace_value.new.heap in
    subst (λ (t : CodeRight). TellsPlain (code_right_term t) c.args.site e r h m) (sym c.in-Replace.is)
    (replace_plain r h m c.args.site e c.in-Replace.x c.in-Replace.y c.in-Replace.z (value_of c.get-array.result) (value_of c.get-in-Replace.result) (value_of c.get-in-Replace-2.result) c.get-array.ensures c.get-in-Replace.ensures c.get-in-Replace-2.ensures (c.replace_value.ensures.told m stands))
